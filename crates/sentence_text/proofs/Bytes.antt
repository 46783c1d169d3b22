-- Bytes of one kind at the front of a list.
use Rattle.std.proofs.Common.{◌≡◌, ℕ, ◌+◌, Bool, true, List, [], ◌∷◌, ◌++◌, length, take, drop, refl, sym, ap, ◌∙◌, one-add, inl, inr}
use Rattle.std.specs.List.{prefix_len, list_all}
use Rattle.std.proofs.lemmas.Bool.{cases_Bool, and_parts, and_from}
use Rattle.std.proofs.lemmas.List.{take_at, drop_at}
use Rattle.std.proofs.lemmas.List.Folds.{list_all-append}

take_one_more : (n c : ℕ) (cs : List ℕ) → take (1 + n) (c ∷ cs) ≡ c ∷ take n cs
take_one_more n c cs = rw one-add refl

front_step : (p : ℕ → Bool) (c : ℕ) (cs : List ℕ) → p c ≡ true → take (prefix_len p (c ∷ cs)) (c ∷ cs) ≡ c ∷ take (prefix_len p cs) cs
front_step p c cs e =
    let len : prefix_len p (c ∷ cs) ≡ 1 + prefix_len p cs = rw e refl in
    ap (λ (n : ℕ). take n (c ∷ cs)) len ∙ take_one_more (prefix_len p cs) c cs

pub front_passes : (p : ℕ → Bool) (bytes : List ℕ) → list_all p (take (prefix_len p bytes) bytes) ≡ true
front_passes p [] = refl
front_passes p (c ∷ cs) = elim (cases_Bool (p c)) [
  | inl e ↦ rw (front_step p c cs e) (and_from (p c) (list_all p (take (prefix_len p cs) cs)) e (front_passes p cs))
  | inr e ↦ rw e refl
]

pub run_of : (p : ℕ → Bool) (bytes tail : List ℕ) → list_all p bytes ≡ true → prefix_len p tail ≡ 0 → prefix_len p (bytes ++ tail) ≡ length bytes
run_of p [] tail h stops = stops
run_of p (c ∷ cs) tail h stops =
    let q = and_parts (p c) (list_all p cs) h in
    rw (q.0, run_of p cs tail q.1 stops) (one-add (length cs))

-- what is at the front, and what follows it
pub record Splits (p : ℕ → Bool) (bytes front tail : List ℕ) : Type 0 where
  pub run : prefix_len p bytes ≡ length front
  pub front_is : take (prefix_len p bytes) bytes ≡ front
  pub tail_is : drop (prefix_len p bytes) bytes ≡ tail

pub splits : (p : ℕ → Bool) (front tail : List ℕ) → list_all p front ≡ true → prefix_len p tail ≡ 0 → Splits p (front ++ tail) front tail
splits p front tail h stops =
    let n = run_of p front tail h stops in
    record {
      run = n;
      front_is = ap (λ (k : ℕ). take k (front ++ tail)) n ∙ take_at front tail (length front) refl;
      tail_is = ap (λ (k : ℕ). drop k (front ++ tail)) n ∙ drop_at front tail (length front) refl;
    }

pub all_parts : (p : ℕ → Bool) (xs ys : List ℕ) → list_all p (xs ++ ys) ≡ true → (list_all p xs ≡ true) × (list_all p ys ≡ true)
all_parts p xs ys h = and_parts (list_all p xs) (list_all p ys) (sym (list_all-append p xs ys) ∙ h)

pub all_append : (p : ℕ → Bool) (xs ys : List ℕ) → list_all p xs ≡ true → list_all p ys ≡ true → list_all p (xs ++ ys) ≡ true
all_append p xs ys h k = list_all-append p xs ys ∙ and_from (list_all p xs) (list_all p ys) h k

pub all_weaker : (p q : ℕ → Bool) → ((c : ℕ) → p c ≡ true → q c ≡ true) → (bytes : List ℕ) → list_all p bytes ≡ true → list_all q bytes ≡ true
all_weaker p q weaker [] h = refl
all_weaker p q weaker (c ∷ cs) h =
    let parts = and_parts (p c) (list_all p cs) h in
    and_from (q c) (list_all q cs) (weaker c parts.0) (all_weaker p q weaker cs parts.1)
