-- An event with the command that it completes, and all events one after another, give what the history says.
use Rattle.std.proofs.Common.{◌≡◌, ℕ, Bool, true, false, List, [], ◌∷◌, ◌++◌, refl, sym, ap, subst, ◌∙◌}
use Rattle.std.specs.Prelude.{Option, Some, None, option_map, nat_le}
use Rattle.std.proofs.lemmas.Bool.{leb-true}
use Rattle.report_rules.specs.Rules as rules
use Rattle.gate_events.specs.declared.emit.Detail.TheVariants as detail
use Rattle.history.specs.Settings.{Settings, receiver_of}
use Rattle.history.specs.Entries as entry
use Rattle.history.specs.Entries.{Entry, History, IsHistory, IsOffered, moment_of, now, is_accepted}
use Rattle.history.specs.EntryLaws.{IsEvent}
use Rattle.history.specs.Messages.{done}
use Rattle.gate_events.specs.Emit.{Emitted}
use Rattle.history.specs.Emits.{at, broken}
use Rattle.history.specs.Gate as gate
use Rattle.history.specs.Gate.{with_command, command_in}
use Rattle.history.specs.AddressLaws.{AreSettings}
use Rattle.history.proofs.EntrySteps.{steps_keep_history}
use Rattle.gate_model.specs.Said.{Complete, Ordered, complete_of, ordered_by}
use Rattle.gate_model.specs.Machine.{Compared, Machine, Step, gives, opened_machine, started_at}
use Rattle.gate_model.specs.MachineSteps.{entered}
use Rattle.gate_model.specs.Stands.{AreOrders, Stands}
use Rattle.gate_model.specs.StandsLaws.{IsStepOf}
use Rattle.gate_model.specs.StandsRuns.{Turn, with_ordered, turned, IsTurnOf, EventsStand, turns, AreOffered, RunsStand}
use Rattle.gate_model.proofs.SaidTold.{messages_are_told}
use Rattle.gate_model.proofs.StandsTimes.{joined, opening_stands}
use Rattle.gate_model.proofs.StandsEntries.{entries_stand, commands_stand}
use Rattle.gate_model.proofs.StandsRoom.{timely}

module _ (o : Compared) (s : ℕ) (h : History) (e : Entry) (g : Machine) (orders : AreOrders o) (are : AreSettings g.settings)
    (stands : Stands o g.settings s h g) where
  abbrev Turns : Turn → gate.Stepped g.settings s → Type 0
  Turns x y = IsTurnOf o g.settings s x y

  abbrev entry_of : Ordered → Entry
  entry_of d = entry.command (moment_of e) d.source d.address

  -- by the command that a step completes, or none
  by_order : (x : Step) → IsStepOf o g.settings s h e x → (d : Option Ordered)
      → IsHistory (with_command g.settings s h e (option_map entry_of d)).after
      → Turns (with_ordered x d) (with_command g.settings s h e (option_map entry_of d))
  by_order x is None could = record {
    stands = is.stands;
    emits = ap (λ (m : ℕ). at m (gives x)) is.stands.moment ∙ ap (at (moment_of e)) is.emits;
  }
  by_order x is (Some d) could =
      let y = commands_stand o g.settings s (e ∷ h) d.source d.address x.after orders are could is.stands in
      record {
        stands = y.stands;
        emits = ap (λ (m : ℕ). at m (with_ordered x (Some d)).emits) y.stands.moment ∙ ap (at (moment_of e)) (joined is.emits y.emits);
      }

  handled_turn : IsHistory (e ∷ h)
      → IsHistory (with_command g.settings s h e (command_in g.settings s (done (receiver_of g.settings) s h e) (moment_of e))).after
      → Turns (with_ordered (entered o g e) (ordered_by g.settings.name (entered o g e).complete))
      (with_command g.settings s h e (command_in g.settings s (done (receiver_of g.settings) s h e) (moment_of e)))
  handled_turn could after =
      let is = entries_stand o g.settings s h e g orders are could stands in
      let d = option_map complete_of (done (receiver_of g.settings) s h e) in
      let order_is = (messages_are_told g.settings s).ordered (done (receiver_of g.settings) s h e) (moment_of e) in
      subst (λ (x : Option Complete). Turns (with_ordered (entered o g e) (ordered_by g.settings.name x))
      (with_command g.settings s h e (command_in g.settings s (done (receiver_of g.settings) s h e) (moment_of e)))) (sym is.complete)
      (subst (λ (q : Option Entry). Turns (with_ordered (entered o g e) (ordered_by g.settings.name d)) (with_command g.settings s h e q)) (sym order_is)
      (by_order (entered o g e) is (ordered_by g.settings.name d)
      (subst (λ (q : Option Entry). IsHistory (with_command g.settings s h e q).after) order_is after)))

  event_turn : IsHistory h → IsEvent e → IsOffered e → Turns (turned o g e) (gate.stepped g.settings s h e)
  event_turn could event offered = by (is_accepted h e) refl
    where
      by : (b : Bool) → is_accepted h e ≡ b → Turns (turned o g e) (gate.stepped g.settings s h e)
      by true accepted =
          let here : nat_le g.moment (moment_of e) ≡ true = ap (λ (m : ℕ). nat_le m (moment_of e)) stands.moment ∙ accepted in
          let next : IsHistory (e ∷ h) = (offered, timely h e event (leb-true (now h) (moment_of e) accepted), could) in
          let after = rw accepted at (steps_keep_history g.settings s h e could event offered) in
          rw (here, accepted) (handled_turn next after)
      by false early =
          let here : nat_le g.moment (moment_of e) ≡ false = ap (λ (m : ℕ). nat_le m (moment_of e)) stands.moment ∙ early in
          rw (here, early) (record { stands = stands; emits = ap (λ (m : ℕ). at m (broken rules.moment_back detail.Nothing ∷ [])) stands.moment })

pub events_stand : EventsStand
events_stand o c s h e g orders are could event offered stands =
    subst (λ (c : Settings). AreSettings c → Stands o c s h g → IsTurnOf o c s (turned o g e) (gate.stepped c s h e)) stands.settings
    (λ are stands. event_turn o s h e g orders are stands could event offered) are stands

-- ---- all events

both : {a b x y : List Emitted} → a ≡ x → b ≡ y → a ++ b ≡ x ++ y
both p q = cc

module _ (o : Compared) (c : Settings) (s : ℕ) (orders : AreOrders o) (are : AreSettings c) where
  from_there : (events : List Entry) (h : History) (g : Machine) → IsHistory h → Stands o c s h g → AreOffered events
      → gate.from_events c s h events ≡ turns o g events
  from_there [] h g could stands offered = refl
  from_there (e ∷ events) h g could stands offered =
      let x = events_stand o c s h e g orders are could offered.0.0 offered.0.1 stands in
      both (sym x.emits)
      (from_there events (gate.stepped c s h e).after (turned o g e).after (steps_keep_history c s h e could offered.0.0 offered.0.1) x.stands offered.1)

pub runs_stand : RunsStand
runs_stand o c s events orders are offered =
    ap (λ (rest : List Emitted). gate.opening c s ++ rest)
    (from_there o c s orders are events [] (started_at s (opened_machine c)) tt (opening_stands o c s are) offered)
