-- Places in a list without its front.
use Rattle.std.proofs.Common.{◌≡◌, ℕ, zero, suc, ◌+◌, List, [], ◌∷◌, refl, ap, ◌∙◌, arith}
use Rattle.std.specs.Prelude.{drop, slice_get}

pub get_dropped : {X : Type 0} (n : ℕ) (xs : List X) (k : ℕ) → slice_get (drop n xs) k ≡ slice_get xs (n + k)
get_dropped zero xs k = ap (slice_get xs) (omega arith)
get_dropped (suc n) [] k = refl
get_dropped (suc n) (x ∷ xs) k =
    let later : suc (n + k) ≡ suc n + k = omega arith in
    get_dropped n xs k ∙ ap (slice_get (x ∷ xs)) later
