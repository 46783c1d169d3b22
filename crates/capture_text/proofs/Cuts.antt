-- Lists that are cut at a byte, and tests that have passed.
use Rattle.std.proofs.Common.{◌≡◌, ℕ, suc, ◌+◌, ◌-◌, ◌<◌, Bool, true, false, cond, List, [], ◌∷◌, ◌++◌, length, get_or, take, drop, drop-cons, Option, Some, None, Result, Ok, Err, refl, sym, ap, ◌∙◌, append_assoc, length-append, add-one, arith, inl, inr}
use Rattle.std.specs.List.{refill}
use Rattle.std.specs.Result.{result_ok}
use Rattle.std.specs.Prelude.{◌==◌}
use Rattle.std.proofs.lemmas.Bool.{cases_lt, eqb-true}
use Rattle.std.proofs.lemmas.List.{append-nil, drop_all, length-drop, take-append-drop, take_at, drop_at, get_or_past}
use borrow.Rule.Slice.PartMut.{put_mid}
use Rattle.std.proofs.Math.Seq.{get_or-append_seam}

pub within : (text : List ℕ) (n c : ℕ) → get_or text n 0 ≡ suc c → n < length text
within text n c e = elim (cases_lt n (length text)) [
  | inl lt ↦ lt
  | inr le ↦ absurd (omega (arith, get_or_past text n 0 le, e))
]

-- the text around a byte that isn't 0
pub cut_found : (text : List ℕ) (n c : ℕ) → get_or text n 0 ≡ suc c → text ≡ take n text ++ suc c ∷ drop (n + 1) text
cut_found text n c e =
    let here = drop-cons text n 0 (within text n c e) in
    sym (take-append-drop n text) ∙ ap (λ (x : List ℕ). take n text ++ x) (here ∙ ap (λ (b : ℕ). b ∷ drop (suc n) text) e ∙ ap (λ (k : ℕ). suc c ∷ drop k text) (sym (add-one n)))

pub cut_by_test : (text : List ℕ) (n c : ℕ) → (get_or text n 0 == suc c) ≡ true → text ≡ take n text ++ suc c ∷ drop (n + 1) text
cut_by_test text n c e = cut_found text n c (eqb-true (get_or text n 0) (suc c) e)

-- the n first bytes, the next one, and those behind it
pub record Cut (text : List ℕ) (n : ℕ) (front : List ℕ) (c : ℕ) (behind : List ℕ) : Type 0 where
  pub front_is : take n text ≡ front
  pub byte_is : get_or text n 0 ≡ c
  pub behind_is : drop (n + 1) text ≡ behind

pub cut_at : (front : List ℕ) (c : ℕ) (behind : List ℕ) (n : ℕ) → length front ≡ n → Cut (front ++ c ∷ behind) n front c behind
cut_at front c behind n e = record {
  front_is = take_at front (c ∷ behind) n e;
  byte_is = ap (λ (k : ℕ). get_or (front ++ c ∷ behind) k 0) (sym e) ∙ get_or-append_seam front c behind 0;
  behind_is = ap (drop (n + 1)) (sym (append_assoc front (c ∷ []) behind)) ∙ drop_at (front ++ c ∷ []) behind (n + 1) (length-append front (c ∷ []) ∙ ap (λ (k : ℕ). k + 1) e);
}

-- a list that ends with what was put there
pub put_end : (room bytes : List ℕ) (done : ℕ) → put_mid done (length room - done) room bytes ≡ take done room ++ bytes
put_end room bytes done =
    let none : drop (length room - done) (drop done room) ≡ [] = drop_all (length room - done) (drop done room) (omega (arith, length-drop done room)) in
    ap (λ (x : List ℕ). take done room ++ (bytes ++ x)) none ∙ ap (λ (x : List ℕ). take done room ++ x) (append-nil bytes)

-- a list whose end is lent and written
pub put_back : (start : ℕ) (old room grown lent put bytes : List ℕ) → grown ≡ old ++ room → lent ≡ grown → start ≡ length old → put ≡ take start lent ++ bytes
    → length put ≡ length lent → refill (length grown) grown put ≡ old ++ bytes
put_back start old room grown lent put bytes grown_is lent_is begins written kept =
    take_at put (drop (length put) grown) (length grown) (kept ∙ ap length lent_is)
    ∙ written ∙ ap (λ (x : List ℕ). take start x ++ bytes) (lent_is ∙ grown_is) ∙ ap (λ (x : List ℕ). x ++ bytes) (take_at old room start (sym begins))

pub four : (xs : List ℕ) → length xs ≡ 4 → (a b c d : ℕ) × (xs ≡ a ∷ b ∷ c ∷ d ∷ [])
four [] e = absurd (omega arith)
four (a ∷ []) e = absurd (omega arith)
four (a ∷ b ∷ []) e = absurd (omega arith)
four (a ∷ b ∷ c ∷ []) e = absurd (omega arith)
four (a ∷ b ∷ c ∷ d ∷ []) e = (a, b, c, d, refl)
four (a ∷ b ∷ c ∷ d ∷ x ∷ xs) e = absurd (omega arith)

-- ---- what an answer says of its test

pub if_some : {A : Type 0} (b : Bool) (x : Option A) (y : A) → cond b x None ≡ Some y → (b ≡ true) × (x ≡ Some y)
if_some true x y e = (refl, e)
if_some false x y e = absurd cc

abbrev something : {A : Type 0} → A → Option A
something x = Some x

pub some_is : {A : Type 0} (x y : A) → something x ≡ Some y → x ≡ y
some_is x y e = cc

pub result_some : {T E : Type 0} (r : Result T E) (x : T) → result_ok r ≡ Some x → r ≡ Ok x
result_some (Ok y) x e = cc
result_some (Err f) x e = absurd cc
