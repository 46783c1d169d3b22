-- PGN 127258 can be heard beside the gateway: it comes in single frames.
use Rattle.std.specs.Prelude.{◌≡◌, Bool, true, false, ◌==◌, if◌then◌else◌, refl}
use Rattle.pgn_profile.specs.declared.kinds.Kind.TheVariants.{Fast, Outside, Single}
use Rattle.bus_listener.specs.Kinds.{AreHeard, is_told}
use Rattle.joined_heading.specs.Variations.{kind_of, variation_pgn}

none_fast : (told b : Bool) → (if b then Single else Outside) ≡ Fast → told ≡ true
none_fast told true fast = cc
none_fast told false fast = cc

pub variation_is_heard : AreHeard kind_of
variation_is_heard = record {
  claims = refl;
  requests = refl;
  management = refl;
  data_packets = refl;
  assembled = λ pgn fast. none_fast (is_told pgn) (pgn == variation_pgn) fast;
}
