-- Pairs of a list: an element and a later one.
use Rattle.std.proofs.Common.{◌≡◌, ℕ, ◌+◌, ◌-◌, ◌<◌, Bool, true, false, IsTrue, List, length, get_or, take, drop, All, sym, ap, ◌∙◌, subst, arith, inl, inr}
use Rattle.std.specs.List.{AllPairs}
use Rattle.std.proofs.lemmas.Bool.{cases_lt, false≢true}
use Rattle.std.proofs.lemmas.List.{get_or-drop, get_or_default, length-drop, take_all}

-- R holds of each of the first n elements and each later one
abbrev pub PairsBelow : {X : Type 0} → (X → X → Type 0) → ℕ → List X → Type 0
PairsBelow {X} R n xs = (i j : ℕ) (d : X) → i < n → i < j → j < length xs → R (get_or xs i d) (get_or xs j d)

-- the elements behind a place, as a slice gives them
abbrev pub rest : {X : Type 0} → List X → ℕ → List X
rest xs n = take (length xs - (n + 1)) (drop (n + 1) xs)

pub rest_is : {X : Type 0} → (xs : List X) (n : ℕ) → rest xs n ≡ drop (n + 1) xs
rest_is xs n = take_all (length xs - (n + 1)) (drop (n + 1) xs) (omega (arith, length-drop (n + 1) xs))

-- what stands at j stands behind each earlier place
behind : {X : Type 0} → (xs : List X) (i j : ℕ) (d : X) → i < j → get_or (drop (i + 1) xs) (j - (i + 1)) d ≡ get_or xs j d
behind xs i j d above =
    let place : i + 1 + (j - (i + 1)) ≡ j = omega arith in
    get_or-drop (i + 1) xs (j - (i + 1)) d ∙ ap (λ n. get_or xs n d) place

-- one more element
pairs_more :
    {X : Type 0} → (R : X → X → Type 0) (xs : List X) (n : ℕ) (x : X)
    → x ≡ get_or xs n x → n < length xs → All (R x) (drop (n + 1) xs) → PairsBelow R n xs → PairsBelow R (n + 1) xs
pairs_more {X} R xs n x is inside here below i j d among above within =
    elim (cases_lt i n) [
      | inl earlier ↦ below i j d earlier above within
      | inr last ↦
          let same : n ≡ i = omega arith in
          let place : j - (n + 1) < length (drop (n + 1) xs) = omega (arith, length-drop (n + 1) xs) in
          let later : R x (get_or (drop (n + 1) xs) (j - (n + 1)) d) = here (j - (n + 1)) d place in
          let at_j : R x (get_or xs j d) = subst (λ (y : X). R x y) (behind xs n j d (omega arith)) later in
          let at_n : x ≡ get_or xs i d = is ∙ get_or_default xs n x d inside ∙ ap (λ k. get_or xs k d) same in
          subst (λ (y : X). R y (get_or xs j d)) at_n at_j
    ]

-- each element is so beside all that follow it
pairs_behind :
    {X : Type 0} → (R : X → X → Type 0) (xs : List X) (n : ℕ) (x : X)
    → x ≡ get_or xs n x → n < length xs → AllPairs R xs → All (R x) (drop (n + 1) xs)
pairs_behind {X} R xs n x is inside all k d within =
    let place : n + 1 + k < length xs = omega (arith, length-drop (n + 1) xs) in
    let pair : R (get_or xs n d) (get_or xs (n + 1 + k) d) = all n (n + 1 + k) d (omega arith) place in
    let first : get_or xs n d ≡ x = sym (is ∙ get_or_default xs n x d inside) in
    let second : R (get_or xs n d) (get_or (drop (n + 1) xs) k d) = subst (λ (y : X). R (get_or xs n d) y) (sym (get_or-drop (n + 1) xs k d)) pair in
    subst (λ (y : X). R y (get_or (drop (n + 1) xs) k d)) first second

-- where the test of an element against those behind it passes, one more element is done
pub all_behind :
    {X : Type 0} → (R : X → X → Type 0) (xs : List X) (n : ℕ) (x : X) (passes : Bool) → x ≡ get_or xs n x → n < length xs
    → (IsTrue passes → All (R x) (rest xs n)) × (All (R x) (rest xs n) → IsTrue passes) → passes ≡ true → PairsBelow R n xs → PairsBelow R (n + 1) xs
all_behind {X} R xs n x passes is inside tells holds below =
    let here : All (R x) (rest xs n) = tells.0 holds in
    pairs_more R xs n x is inside (subst (λ (ys : List X). All (R x) ys) (rest_is xs n) here) below

-- where it fails, not all pairs are so
pub none_behind :
    {X : Type 0} → (R : X → X → Type 0) (xs : List X) (n : ℕ) (x : X) (passes : Bool) → x ≡ get_or xs n x → n < length xs
    → (IsTrue passes → All (R x) (rest xs n)) × (All (R x) (rest xs n) → IsTrue passes) → passes ≡ false → AllPairs R xs → ⊥
none_behind {X} R xs n x passes is inside tells fails all =
    let here : All (R x) (rest xs n) = subst (λ (ys : List X). All (R x) ys) (sym (rest_is xs n)) (pairs_behind R xs n x is inside all) in
    false≢true (sym fails ∙ tells.1 here)
