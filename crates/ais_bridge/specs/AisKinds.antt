-- The parameter group of reports is one that a listener can hear.
use Rattle.std.specs.Prelude.{◌≡◌, ℕ, Bool, true, false, ◌==◌, if◌then◌else◌, refl}
use Rattle.std.proofs.Common.{ap, ◌∙◌}
use Rattle.std.proofs.lemmas.Bool.{eqb-true}
use Rattle.pgn_profile.specs.Profiled.{messages}
use Rattle.pgn_profile.specs.declared.kinds.Kind.TheVariants.{Fast, Outside}
use Rattle.bus_listener.specs.Kinds.{AreHeard, is_told}
use Rattle.ais_bridge.specs.AisOut.{report_kinds, report_pgn}

-- the gateway has no such message
told_here : is_told report_pgn ≡ true
unfolding messages
told_here = refl

pub reports_are_heard : AreHeard report_kinds
reports_are_heard = record {
  claims = refl;
  requests = refl;
  management = refl;
  data_packets = refl;
  assembled = λ pgn fast. by pgn (pgn == report_pgn) refl fast;
}
  where
    by : (pgn : ℕ) (b : Bool) → (pgn == report_pgn) ≡ b → (if b then Fast else Outside) ≡ Fast → is_told pgn ≡ true
    by pgn true e fast = ap is_told (eqb-true pgn report_pgn e) ∙ told_here
    by pgn false e fast = cc
