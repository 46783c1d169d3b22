use Rattle.std.proofs.Common.{◌≡◌, ◌≢◌, ℕ, zero, suc, ◌+◌, ◌%◌, ◌<◌, Bool, true, false, Option, None, Some, MatchOption, List, refl, arith}
use Rattle.n2k_id.specs.Name.{is_arbitrary}
use Rattle.claim_table.specs.declared.answer.Holder.{Holder}
use Rattle.claim_table.specs.Claims.{Claims, free_from, holder_at, next_free, next_own, when}
use Rattle.claim_table.specs.Laws.{FindsFirstFree, IsFreeAfter}

-- the address j places after s, in cyclic order
abbrev place : ℕ → ℕ → ℕ
place s j = (s + j) % 252

-- b is the first free one of k places from s on
record IsFirst (k : ℕ) (holders : List (Option Holder)) (s b : ℕ) : Type 0 where
  pub j : ℕ
  pub below : j < k
  pub place_is : b ≡ place s j
  pub free : holder_at holders (place s j) ≡ None
  pub before : (i : ℕ) → i < j → holder_at holders (place s i) ≢ None

-- what a search over k places from s on has found
Found : ℕ → List (Option Holder) → ℕ → Option ℕ → Type 0
Found k holders s r = MatchOption r ((j : ℕ) → j < k → holder_at holders (place s j) ≢ None) (λ b. IsFirst k holders s b)

found_further : (k : ℕ) (holders : List (Option Holder)) (s : ℕ) (h : Holder) (r : Option ℕ) → holder_at holders (s % 252) ≡ Some h → Found k holders (s + 1) r → Found (suc k) holders s r
unfolding Found
found_further k holders s h None e found = all
  where
    all : (j : ℕ) → j < suc k → holder_at holders (place s j) ≢ None
    all zero l n = let here : s + 0 ≡ s = omega arith in cc
    all (suc j) l n = let same : s + 1 + j ≡ s + suc j = omega arith in found j (omega arith) (rw same n)
found_further k holders s h (Some b) e found = record {
  j = suc found.j;
  below = omega (arith, found.below);
  place_is = let same : s + 1 + found.j ≡ s + suc found.j = omega arith in rw same at found.place_is;
  free = let same : s + 1 + found.j ≡ s + suc found.j = omega arith in rw same at found.free;
  before = before;
}
  where
    before : (i : ℕ) → i < suc found.j → holder_at holders (place s i) ≢ None
    before zero l n = let here : s + 0 ≡ s = omega arith in cc
    before (suc i) l n = let same : s + 1 + i ≡ s + suc i = omega arith in found.before i (omega arith) (rw same n)

found_from : (k : ℕ) (holders : List (Option Holder)) (s : ℕ) (x : Option Holder) → holder_at holders (s % 252) ≡ x → Found k holders s (free_from k holders (s % 252) x)
unfolding Found free_from
found_from zero holders s x e = λ j l n. absurd (omega arith)
found_from (suc k) holders s None e = grind arith
found_from (suc k) holders s (Some h) e = grind (arith, found_from k holders (s + 1) (holder_at holders ((s + 1) % 252)) refl, found_further)

found_tells : (holders : List (Option Holder)) (a : ℕ) (r : Option ℕ) → Found 252 holders (a + 1) r → MatchOption r ((j : ℕ) → j < 252 → ¬ IsFreeAfter holders a j) (λ b. (j : ℕ) × (j < 252) × (b ≡ (a + 1 + j) % 252) × IsFreeAfter holders a j × ((i : ℕ) → i < j → ¬ IsFreeAfter holders a i))
unfolding Found
found_tells holders a r found = grind arith

found_next : (holders : List (Option Holder)) (a : ℕ) → Found 252 holders (a + 1) (next_free holders a)
unfolding next_free
found_next holders a = found_from 252 holders (a + 1) (holder_at holders ((a + 1) % 252)) refl

pub finds_first_free : FindsFirstFree
finds_first_free holders a = found_tells holders a (next_free holders a) (found_next holders a)

-- what is found is free, and an address that a device may move to
pub record IsOpen (holders : List (Option Holder)) (b : ℕ) : Type 0 where
  pub free : holder_at holders b ≡ None
  pub within : b < 252

found_open : (holders : List (Option Holder)) (s b : ℕ) (r : Option ℕ) → r ≡ Some b → Found 252 holders s r → IsOpen holders b
unfolding Found
found_open holders s b r e found = grind arith

open_when : (holders : List (Option Holder)) (a b : ℕ) (may : Bool) → when may (next_free holders a) ≡ Some b → IsOpen holders b
open_when holders a b true e = found_open holders (a + 1) b (next_free holders a) e (found_next holders a)
open_when holders a b false e = cc

pub next_open : (c : Claims) (a b : ℕ) → next_own c a ≡ Some b → IsOpen c.holders b
unfolding next_own
next_open c a b e = open_when c.holders a b (is_arbitrary c.name) e
