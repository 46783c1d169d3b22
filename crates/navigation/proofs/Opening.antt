-- With nothing heard, what is kept of plotters stands for that nothing came.
use Rattle.std.proofs.Common.{◌≡◌, ℕ, ◌<◌, zero, suc, List, [], ◌∷◌, Option, Some, None, replicate, refl, sym, ◌∙◌, arith}
use Rattle.std.specs.Prelude.{slice_index}
use Rattle.std.proofs.lemmas.List.{length-replicate}
use Rattle.claim_table.specs.Claims.{places}
use Rattle.history.specs.Known.{held_since}
use Rattle.gate_model.proofs.ChoiceMessages.{opening_stands_chosen}
use Rattle.bus_listener.specs.Promises.{IsOpening}
use Rattle.navigation.specs.Courses.{from_since}
use Rattle.navigation.specs.Kept.{course_at, nav_opened, no_course}
use Rattle.navigation.specs.Legs.{kind_of}
use Rattle.navigation.specs.NavOut.{holders_at, leg_told, nav_receiver}
use Rattle.navigation.specs.NavRule.{NavRule}
use Rattle.navigation.specs.Promises.{IsNavOpening, course_of}

one_timeout : (x : NavRule) (n : ℕ) → n < 1 → slice_index (x.taken.timeout ∷ []) n ≡ x.taken.timeout
one_timeout x zero within = refl
one_timeout x (suc n) within = absurd (omega (arith, within))

nothing_held : (a : ℕ) (since : Option ℕ) → no_course ≡ course_of (from_since a [] since)
nothing_held a None = refl
nothing_held a (Some since) = refl

pub none_of_all : (n a : ℕ) → course_at (replicate n no_course) a ≡ no_course
none_of_all zero a = refl
none_of_all (suc n) zero = refl
none_of_all (suc n) (suc a) = none_of_all n a

pub opening_stands : (x : NavRule) (sfi : List ℕ) → IsOpening x.slots (nav_opened x sfi).slots → IsNavOpening x sfi (nav_opened x sfi)
opening_stands x sfi opens = λ c s speaks. record {
  rule = refl;
  sfi = sym speaks;
  slots = opens kind_of c s;
  choices = opening_stands_chosen leg_told (λ subject. x.taken) (x.taken.timeout ∷ []) (nav_receiver x c) s (one_timeout x);
  courses = record {
    count = length-replicate places no_course;
    each = λ a within. none_of_all places a ∙ nothing_held a (held_since (holders_at x c s []) a);
  };
  lines = refl;
}
