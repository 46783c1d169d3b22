-- Paths that are cut.
use Rattle.std.proofs.Common.{◌≡◌, ℕ, zero, suc, ◌+◌, ◌-◌, ◌≤◌, min, List, [], ◌∷◌, ◌++◌, length, take, refl, ap, ◌∙◌, sym, arith, inl, inr}
use Rattle.std.proofs.Math.Seq.{take-append-add}
use Rattle.std.proofs.lemmas.List.{take_all}
use Rattle.std.proofs.lemmas.Bool.{cases_lt}
use Rattle.config_document.specs.Faults.{cut}

filled : (most n : ℕ) (xs ys : List ℕ) → most ≡ length xs + n → xs ++ take n ys ≡ take most (xs ++ ys)
filled most n xs ys same = rw same (sym (take-append-add xs ys n))

shorter : (n last : ℕ) (ys : List ℕ) → last ≡ min (length ys) n → take last ys ≡ take n ys
shorter n last ys same =
    elim (cases_lt n (length ys)) [
      | inl less ↦ ap (λ (i : ℕ). take i ys) (omega (arith, same))
      | inr more ↦ take_all last ys (omega (arith, same)) ∙ sym (take_all n ys more)
    ]

-- what fits behind a list is what a cut of both keeps
pub fills : (xs ys : List ℕ) (last : ℕ) → length xs ≤ 128 → last ≡ min (length ys) (128 - length xs) → xs ++ take last ys ≡ cut (xs ++ ys)
unfolding cut
fills xs ys last fits same =
    ap (λ (t : List ℕ). xs ++ t) (shorter (128 - length xs) last ys same) ∙ filled 128 (128 - length xs) xs ys (omega arith)

again : (most : ℕ) (xs ys : List ℕ) → take most (take most xs ++ ys) ≡ take most (xs ++ ys)
again zero xs ys = refl
again (suc most) [] ys = refl
again (suc most) (x ∷ xs) ys = ap (λ (t : List ℕ). x ∷ t) (again most xs ys)

-- a path that is cut twice is cut once
pub cut_twice : (xs ys : List ℕ) → cut (cut xs ++ ys) ≡ cut (xs ++ ys)
unfolding cut
cut_twice xs ys = again 128 xs ys
