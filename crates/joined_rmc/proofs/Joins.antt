-- What RMC gives beside the gateway is what the definition over all that ever came says.
use Rattle.std.proofs.Common.{◌≡◌, ℕ, Bool, true, false, List, [], ◌∷◌, ◌++◌, refl, sym, ap, ◌∙◌}
use Rattle.std.specs.Prelude.{Option, Some, None, is_some}
use Rattle.history.specs.Settings.{Settings}
use Rattle.gate_events.specs.Emit.{net}
use Rattle.gate_outbox.specs.Output.{Emitted, emits_of, no_emits, with_posted}
use Rattle.joined_rmc.specs.JoinStands.{IsJoinStep}
use Rattle.joined_rmc.specs.Kept.{bytes_in}
use Rattle.joined_rmc.specs.RmcOut.{RmcRule, rmc_datagram, sent_to}
use Rattle.parts.specs.PartSteps.{Says, entry_at}
use Rattle.parts.specs.declared.part.Step.{Step}
use Rattle.joined_rmc.specs.RmcPart.{joining_gives, joining_stands}
use Rattle.joined_rmc.specs.declared.joining.Joining.{Joining}

-- it is said exactly where the history says so, as it says
sent_as : (r : RmcRule) (c : Settings) (s : ℕ) (group packet : List ℕ) (d : Option (List ℕ)) → group ≡ r.group → packet ≡ bytes_in d → true ≡ is_some d
    → net group packet ∷ [] ≡ sent_to r c s r.group d
sent_as r c s group packet None same is said = absurd cc
sent_as r c s group packet (Some bytes) same is said = ap (λ x. net x packet ∷ []) same ∙ ap (λ x. net r.group x ∷ []) is

none_sent : (r : RmcRule) (c : Settings) (s : ℕ) (d : Option (List ℕ)) → false ≡ is_some d → [] ≡ sent_to r c s r.group d
none_sent r c s None said = refl
none_sent r c s (Some bytes) said = absurd cc

module _ (t : Step) (before after : Joining) (said : Bool) (packet : List ℕ)
    (is : IsJoinStep t.gateway.now t.outbox.now before.join after.join said packet) (same : after.group ≡ before.group) where
  pub rmc_said : (out : Emitted) (group : List ℕ) → out ≡ no_emits → group ≡ before.group → said ≡ true
      → Says joining_stands joining_gives emits_of t before after (with_posted out (net group packet ∷ []))
  rmc_said out group empty to there r c s h step stands =
      let j = is r c s h (entry_at t) step.settings step.taken stands.1 in
      record {
        stood = (same ∙ stands.0, j.stands);
        emits = ap (λ x. x.told ++ net group packet ∷ []) empty
            ∙ sent_as r c s group packet (rmc_datagram r c s h (entry_at t)) (to ∙ stands.0) j.packet_is (sym there ∙ j.said_is);
      }

  pub rmc_silent : (given : Emitted) → given ≡ no_emits → said ≡ false → Says joining_stands joining_gives emits_of t before after given
  rmc_silent given empty none r c s h step stands =
      let j = is r c s h (entry_at t) step.settings step.taken stands.1 in
      record {
        stood = (same ∙ stands.0, j.stands);
        emits = ap emits_of empty ∙ none_sent r c s (rmc_datagram r c s h (entry_at t)) (sym none ∙ j.said_is);
      }
