-- What gives the events begins before the first one.
use Rattle.std.proofs.Common.{◌≡◌, ℕ, List, ap, ◌∙◌}
use Rattle.std.specs.Prelude.{◌%◌, replicate, slice_index}
use Rattle.std.proofs.lemmas.List.{get_or-replicate}
use Rattle.demo.specs.declared.input.Input.{Input}
use Rattle.demo.specs.Input.{IsBefore}

pub first : (seed : ℕ) (x : Input) → x.number ≡ 0 → x.numbers ≡ seed → x.places ≡ replicate 251 0 → IsBefore seed 0 x
first seed x number state places = record {
  number = number;
  state = state;
  places = λ a within. ap (λ (p : List ℕ). slice_index p a % 7) places ∙ ap (λ (n : ℕ). n % 7) (get_or-replicate 251 a 0 0 within);
}
