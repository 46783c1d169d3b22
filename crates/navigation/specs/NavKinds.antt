-- PGN 129284 and PGN 129283 can be heard beside the gateway: it assembles no leg.
use Rattle.std.specs.Prelude.{◌≡◌, ℕ, Bool, true, false, ◌==◌, if◌then◌else◌, refl}
use Rattle.std.proofs.Common.{subst, sym}
use Rattle.std.proofs.lemmas.Bool.{eqb-true}
use Rattle.pgn_profile.specs.Profiled.{messages}
use Rattle.pgn_profile.specs.declared.kinds.Kind.TheVariants.{Fast, Outside, Single}
use Rattle.bus_listener.specs.Kinds.{AreHeard, is_told}
use Rattle.navigation.specs.Legs.{error_pgn, kind_of, leg_pgn}

pub plotters_are_heard : AreHeard kind_of
unfolding messages
plotters_are_heard = record {
  claims = refl;
  requests = refl;
  management = refl;
  data_packets = refl;
  assembled = λ pgn fast. by pgn (pgn == leg_pgn) refl (pgn == error_pgn) fast;
}
  where
    by : (pgn : ℕ) (leg : Bool) → (pgn == leg_pgn) ≡ leg → (error : Bool) → (if leg then Fast else if error then Single else Outside) ≡ Fast → is_told pgn ≡ true
    by pgn true is error fast = subst (λ p. is_told p ≡ true) (sym (eqb-true pgn leg_pgn is)) refl
    by pgn false is true fast = cc
    by pgn false is false fast = cc
