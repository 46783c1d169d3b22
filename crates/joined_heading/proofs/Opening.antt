-- With nothing heard, what is kept of joined headings stands for that nothing came.
use Rattle.std.proofs.Common.{◌≡◌, ℕ, ◌<◌, zero, suc, List, [], ◌∷◌, refl, sym, arith}
use Rattle.std.specs.Prelude.{slice_index}
use Rattle.gate_model.proofs.ChoiceMessages.{opening_stands_chosen}
use Rattle.bus_listener.specs.Promises.{IsOpening}
use Rattle.joined_heading.specs.HeadingRule.{HeadingRule}
use Rattle.joined_heading.specs.Kept.{heading_opened}
use Rattle.joined_heading.specs.Promises.{IsHeadingOpening}
use Rattle.joined_heading.specs.Variations.{kind_of, variation_receiver, variation_told}

one_timeout : (x : HeadingRule) (n : ℕ) → n < 1 → slice_index (x.taken.timeout ∷ []) n ≡ x.taken.timeout
one_timeout x zero within = refl
one_timeout x (suc n) within = absurd (omega (arith, within))

pub opening_stands : (x : HeadingRule) (sfi : List ℕ) (timeout : ℕ) → IsOpening 0 (heading_opened x sfi timeout).slots → IsHeadingOpening x sfi timeout (heading_opened x sfi timeout)
opening_stands x sfi timeout opens = λ c s speaks counts. record {
  rule = refl;
  sfi = sym speaks;
  slots = opens kind_of c s;
  choices = opening_stands_chosen variation_told (λ subject. x.taken) (x.taken.timeout ∷ []) (variation_receiver c) s (one_timeout x);
  variation = record { timeout_is = refl; kept = refl };
  measured = record { timeout_is = sym counts; kept = refl };
  lines = refl;
}
