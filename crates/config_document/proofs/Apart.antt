-- Where nothing stands twice by a test that each thing passes with itself, all are apart.
use Rattle.std.proofs.Common.{◌≡◌, ◌≢◌, ℕ, zero, suc, ◌<◌, Bool, true, false, List, [], ◌∷◌, length, get_or, refl, ap, sym, ◌∙◌, arith}
use Rattle.std.specs.Prelude.{◌||◌}
use Rattle.std.specs.List.{list_any}
use Rattle.std.proofs.lemmas.Bool.{false≢true, or_parts}
use Rattle.config_document.specs.Twice.{repeats}

pub none_of : {A : Type 0} (test : A → Bool) (xs : List A) (j : ℕ) (d : A) → list_any test xs ≡ false → j < length xs → test (get_or xs j d) ≡ false
none_of test [] j d h within = absurd (omega arith)
none_of test (x ∷ xs) zero d h within = (or_parts (test x) (list_any test xs) h).0
none_of test (x ∷ xs) (suc j) d h within = none_of test xs j d ((or_parts (test x) (list_any test xs) h).1) (omega arith)

pub apart :
    {A : Type 0} (same : A → A → Bool) → ((x : A) → same x x ≡ true) → (xs : List A) → repeats same xs ≡ false
    → (i j : ℕ) (d : A) → i < j → j < length xs → get_or xs i d ≢ get_or xs j d
apart same itself [] h i j d before within = absurd (omega arith)
apart same itself (x ∷ xs) h i zero d before within = absurd (omega arith)
apart same itself (x ∷ xs) h zero (suc j) d before within = λ equal.
    let others = (or_parts (list_any (λ y. same y x) xs) (repeats same xs) h).0 in
    let differ : same (get_or xs j d) x ≡ false = none_of (λ y. same y x) xs j d others (omega arith) in
    false≢true (sym differ ∙ ap (λ y. same y x) (sym equal) ∙ itself x)
apart same itself (x ∷ xs) h (suc i) (suc j) d before within =
    apart same itself xs ((or_parts (list_any (λ y. same y x) xs) (repeats same xs) h).1) i j d (omega arith) (omega arith)
