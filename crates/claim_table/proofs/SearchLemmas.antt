use Rattle.std.proofs.Common.{◌≡◌, ◌≢◌, ℕ, ◌+◌, ◌%◌, ◌<◌, ◌≤◌, ◌==◌, ◌&&◌, ◌||◌, nat_lt, not, min, is_none, Bool, true, false, Option, None, Some, MatchOption, List, length, set, refl, sym, ap, ◌∙◌, arith}
use Rattle.std.proofs.lemmas.Grind.{common_steps}
use Rattle.std.specs.List.{position}
use Rattle.std.proofs.lemmas.Bool.{eqb-true}
use Rattle.std.proofs.lemmas.List.{get_or-set_same, get_or-set_other, length-set}
use Rattle.std.proofs.lemmas.List.Quantifiers.{position-Some}
use Rattle.claim_table.specs.declared.answer.Holder.{Holder}
use Rattle.claim_table.specs.declared.answer.OwnAnswer.{OwnAnswer}
use Rattle.claim_table.specs.Claims.{Claims, Claim, holder_at, is_held_by, left_by, moved, next_free, next_own, other_than, step_of, vacated, with_released, with_taken, without_left}
use Rattle.claim_table.specs.Laws.{IsFreeAfter}
use Rattle.claim_table.proofs.CaseLemmas.{lt_false, lt_true, not_eqb}
use Rattle.claim_table.proofs.FirstFreeLemmas.{finds_first_free}
use Rattle.claim_table.proofs.SoundLemmas.{none_at_set, position_none, vacated_free, vacated_other}

-- what the first i places tell of the place that a NAME holds
pub record IsHeldSoFar (n : ℕ) (holders : List (Option Holder)) (i : ℕ) (held : Option ℕ) : Type 0 where
  pub none : held ≡ None → (j : ℕ) → j < i → is_held_by n (holder_at holders j) ≡ false
  pub some : (p : ℕ) → held ≡ Some p → (p < i) × (position (is_held_by n) holders ≡ Some p)

-- the holders once the NAME has left its place by claiming the address a
abbrev pub without : ℕ → List (Option Holder) → ℕ → List (Option Holder)
without n holders a = vacated holders (other_than a (position (is_held_by n) holders))

-- nobody has this place once the NAME has gone to the address a
pub record IsOpen (n : ℕ) (holders : List (Option Holder)) (a p : ℕ) : Type 0 where
  pub elsewhere : p ≢ a
  pub free : holder_at (without n holders a) p ≡ None

-- the address j steps on from the first one after a
abbrev pub place : ℕ → ℕ → ℕ
place a j = (a + 1 + j) % 252

-- of the first i places, none that is open is less than d steps on
pub record IsNearestSoFar (n : ℕ) (holders : List (Option Holder)) (a i d : ℕ) : Type 0 where
  pub within : d ≤ 252
  pub before : (j : ℕ) → j < d → place a j < i → ¬ IsOpen n holders a (place a j)
  pub there : d < 252 → IsOpen n holders a (place a d)

-- the first place that passes is the position
first_at : (p : Option Holder → Bool) (holders : List (Option Holder)) (i : ℕ) → i < length holders → ((j : ℕ) → j < i → p (holder_at holders j) ≡ false) → p (holder_at holders i) ≡ true → position p holders ≡ Some i
first_at p holders i l before here = by (position p holders) refl
  where
    by : (x : Option ℕ) → position p holders ≡ x → x ≡ Some i
    by None e = let passes_not : p (holder_at holders i) ≡ false = position_none p holders i e l in cc
    by (Some q) e =
        let found = position-Some p holders q None e in
        let not_less : ¬ (q < i) = λ less. let one : p (holder_at holders q) ≡ false = before q less in let other : p (holder_at holders q) ≡ true = found.1 in cc in
        let not_more : ¬ (i < q) = λ more. let one : p (holder_at holders i) ≡ false = found.2 i more in cc in
        let same : q ≡ i = omega arith in
        ap Some same

pub held_here : (n : ℕ) (holders : List (Option Holder)) (i : ℕ) (held : Option ℕ) → i < length holders → IsHeldSoFar n holders i held → (is_none held && is_held_by n (holder_at holders i)) ≡ true → IsHeldSoFar n holders (i + 1) (Some i)
held_here n holders i held room so_far e = grind (arith, first_at)

pub held_further : (n : ℕ) (holders : List (Option Holder)) (i : ℕ) (held : Option ℕ) → IsHeldSoFar n holders i held → (is_none held && is_held_by n (holder_at holders i)) ≡ false → IsHeldSoFar n holders (i + 1) held
held_further n holders i held so_far e = grind arith

-- after the last place it is known which one the NAME holds
pub held_is_position : (n : ℕ) (holders : List (Option Holder)) (held : Option ℕ) → IsHeldSoFar n holders (length holders) held → held ≡ position (is_held_by n) holders
held_is_position n holders (Some p) so_far = sym (so_far.some p refl).1
held_is_position n holders None so_far = by (position (is_held_by n) holders) refl
  where
    by : (x : Option ℕ) → position (is_held_by n) holders ≡ x → None ≡ x
    by None e = refl
    by (Some q) e =
        let found = position-Some (is_held_by n) holders q None e in
        let not_held : is_held_by n (holder_at holders q) ≡ false = so_far.none refl q found.0 in
        let is_held : is_held_by n (holder_at holders q) ≡ true = found.1 in
        cc

-- a place where nobody stands, or that the NAME leaves, is open
pub open_free : (n : ℕ) (holders : List (Option Holder)) (a i : ℕ) → i ≢ a → is_none (holder_at holders i) ≡ true → IsOpen n holders a i
open_free n holders a i other e = record {
  elsewhere = other;
  free = vacated_free holders (other_than a (position (is_held_by n) holders)) i (nobody (holder_at holders i) e);
}
  where
    nobody : (x : Option Holder) → is_none x ≡ true → x ≡ None
    nobody None e = refl
    nobody (Some h) e = cc

pub open_left : (n : ℕ) (holders : List (Option Holder)) (a i : ℕ) → i ≢ a → position (is_held_by n) holders ≡ Some i → IsOpen n holders a i
open_left n holders a i other e = record { elsewhere = other; free = by (i == a) refl }
  where
    by : (t : Bool) → (i == a) ≡ t → holder_at (without n holders a) i ≡ None
    by true f = absurd (other (eqb-true i a f))
    by false f = rw (e, f) (none_at_set holders i)

-- no other is
not_open : (n : ℕ) (holders : List (Option Holder)) (a i : ℕ) → is_none (holder_at holders i) ≡ false → position (is_held_by n) holders ≢ Some i → ¬ IsOpen n holders a i
not_open n holders a i e m is_open = grind (arith, vacated_other)

pub not_left : (n : ℕ) (holders : List (Option Holder)) (a i : ℕ) (held : Option ℕ) → IsHeldSoFar n holders i held → (is_none held && is_held_by n (holder_at holders i)) ≡ false → is_none (holder_at holders i) ≡ false → ¬ IsOpen n holders a i
not_left n holders a i held so_far e f = grind (arith, common_steps, not_open, position-Some)

-- the test of a place tells whether it is open
open_told : (n : ℕ) (holders : List (Option Holder)) (a i : ℕ) (held : Option ℕ) → i < length holders → IsHeldSoFar n holders i held → i ≢ a → (leaves : Bool) → leaves ≡ (is_none held && is_held_by n (holder_at holders i)) → (leaves || is_none (holder_at holders i)) ≡ true → IsOpen n holders a i
open_told n holders a i held room so_far other false l e = open_free n holders a i other e
open_told n holders a i (Some p) room so_far other true l e = cc
open_told n holders a i None room so_far other true l e =
    open_left n holders a i other (first_at (is_held_by n) holders i room (so_far.none refl) (sym l))

pub open_where : (n : ℕ) (holders : List (Option Holder)) (a i : ℕ) (held : Option ℕ) (leaves : Bool) → i < length holders → IsHeldSoFar n holders i held → leaves ≡ (is_none held && is_held_by n (holder_at holders i)) → (nat_lt i 252 && not (i == a) && (leaves || is_none (holder_at holders i))) ≡ true → IsOpen n holders a i
open_where n holders a i held leaves room so_far l e = by (nat_lt i 252) (i == a) refl e
  where
    by : (p q : Bool) → (i == a) ≡ q → (p && not q && (leaves || is_none (holder_at holders i))) ≡ true → IsOpen n holders a i
    by true true f g = cc
    by true false f g = open_told n holders a i held room so_far (not_eqb i a f) leaves l g
    by false q f g = cc

pub closed_where : (n : ℕ) (holders : List (Option Holder)) (a i : ℕ) (held : Option ℕ) (leaves : Bool) → IsHeldSoFar n holders i held → leaves ≡ (is_none held && is_held_by n (holder_at holders i)) → (nat_lt i 252 && not (i == a) && (leaves || is_none (holder_at holders i))) ≡ false → i < 252 → ¬ IsOpen n holders a i
closed_where n holders a i held leaves so_far l e within is_open =
    by (nat_lt i 252) (i == a) leaves (is_none (holder_at holders i)) refl refl refl refl e
  where
    by : (p q r t : Bool) → nat_lt i 252 ≡ p → (i == a) ≡ q → leaves ≡ r → is_none (holder_at holders i) ≡ t → (p && not q && (r || t)) ≡ false → ⊥
    by false q r t f g h k e = let least : 252 ≤ i = lt_false i 252 f in omega arith
    by true true r t f g h k e = is_open.elsewhere (eqb-true i a g)
    by true false true t f g h k e = cc
    by true false false true f g h k e = cc
    by true false false false f g h k e = not_left n holders a i held so_far (sym l ∙ h) k is_open

-- a place that isn't open, or is none to go to, changes nothing
pub nearest_further : (n : ℕ) (holders : List (Option Holder)) (a i d : ℕ) → IsNearestSoFar n holders a i d → (i < 252 → ¬ IsOpen n holders a i) → IsNearestSoFar n holders a (i + 1) d
nearest_further n holders a i d so_far closed = grind arith

-- an open place that is e steps on is the nearest, if it has fewer steps than the one so far
pub nearest_here : (n : ℕ) (holders : List (Option Holder)) (a i d e : ℕ) → IsNearestSoFar n holders a i d → IsOpen n holders a i → place a e ≡ i → e < 252 → IsNearestSoFar n holders a (i + 1) (min d e)
nearest_here n holders a i d e so_far is_open at within = grind arith

-- once the NAME has the address a, a place is free exactly where it is open
free_if_open : (n : ℕ) (holders : List (Option Holder)) (a p : ℕ) (h : Holder) → IsOpen n holders a p → holder_at (set (without n holders a) a (Some h)) p ≡ None
free_if_open n holders a p h is_open = grind (arith, get_or-set_other)

open_if_free : (n : ℕ) (holders : List (Option Holder)) (a p : ℕ) (h : Holder) → a < length holders → holder_at (set (without n holders a) a (Some h)) p ≡ None → IsOpen n holders a p
open_if_free n holders a p h room free = record {
  elsewhere = elsewhere;
  free = sym (get_or-set_other (without n holders a) a p (Some h) None elsewhere) ∙ free;
}
  where
    same_length : (x : Option ℕ) → length (vacated holders x) ≡ length holders
    same_length x = grind (arith, length-set)

    elsewhere : p ≢ a
    elsewhere same = grind (arith, same_length, get_or-set_same)

-- the open place with the fewest steps is the next free address
next_nearest : (n : ℕ) (holders : List (Option Holder)) (a d : ℕ) (h : Holder) → a < length holders → IsNearestSoFar n holders a 254 d → d < 252 → next_free (set (without n holders a) a (Some h)) a ≡ Some (place a d)
next_nearest n holders a d h room so_far l = by (next_free (set (without n holders a) a (Some h)) a) (finds_first_free (set (without n holders a) a (Some h)) a)
  where
    free_there : IsFreeAfter (set (without n holders a) a (Some h)) a d
    free_there = free_if_open n holders a (place a d) h (so_far.there l)

    by : (r : Option ℕ) → MatchOption r ((j : ℕ) → j < 252 → ¬ IsFreeAfter (set (without n holders a) a (Some h)) a j) (λ b. (j : ℕ) × (j < 252) × (b ≡ (a + 1 + j) % 252) × IsFreeAfter (set (without n holders a) a (Some h)) a j × ((i : ℕ) → i < j → ¬ IsFreeAfter (set (without n holders a) a (Some h)) a i)) → r ≡ Some (place a d)
    by None found = absurd (found d l free_there)
    by (Some b) found =
        let not_less : ¬ (found.0 < d) = λ less. so_far.before found.0 less (omega arith) (open_if_free n holders a (place a found.0) h room found.3) in
        let not_more : ¬ (d < found.0) = λ more. found.4 d more free_there in
        let same : found.0 ≡ d = omega arith in
        ap Some (rw same at found.2)

-- and there is none where no place is open
next_nowhere : (n : ℕ) (holders : List (Option Holder)) (a : ℕ) (h : Holder) → a < length holders → IsNearestSoFar n holders a 254 252 → next_free (set (without n holders a) a (Some h)) a ≡ None
next_nowhere n holders a h room so_far = by (next_free (set (without n holders a) a (Some h)) a) (finds_first_free (set (without n holders a) a (Some h)) a)
  where
    by : (r : Option ℕ) → MatchOption r ((j : ℕ) → j < 252 → ¬ IsFreeAfter (set (without n holders a) a (Some h)) a j) (λ b. (j : ℕ) × (j < 252) × (b ≡ (a + 1 + j) % 252) × IsFreeAfter (set (without n holders a) a (Some h)) a j × ((i : ℕ) → i < j → ¬ IsFreeAfter (set (without n holders a) a (Some h)) a i)) → r ≡ None
    by None found = refl
    by (Some b) found =
        absurd (so_far.before found.0 found.1 (omega arith) (open_if_free n holders a (place a found.0) h room found.3))

-- what the pass has reached is the next free address
pub next_reached : (n : ℕ) (holders : List (Option Holder)) (a d : ℕ) (h : Holder) (r : Option ℕ) → a < length holders → IsNearestSoFar n holders a 254 d → (d ≡ 252 → r ≡ None) → (d < 252 → r ≡ Some (place a d)) → r ≡ next_free (set (without n holders a) a (Some h)) a
next_reached n holders a d h r room so_far nowhere there = by (nat_lt d 252) refl
  where
    by : (t : Bool) → nat_lt d 252 ≡ t → r ≡ next_free (set (without n holders a) a (Some h)) a
    by true f =
        let within : d < 252 = lt_true d 252 f in
        there within ∙ sym (next_nearest n holders a d h room so_far within)
    by false f =
        let least : 252 ≤ d = lt_false d 252 f in
        let all : d ≡ 252 = omega (arith, so_far.within) in
        nowhere all ∙ sym (next_nowhere n holders a h room (rw all at so_far))

-- the gateway goes where it does once the NAME has left its address and has the lost one
pub gives_way : (c : Claims) (k : Claim) (left next : Option ℕ) → left ≡ other_than k.address (position (is_held_by k.name) c.holders) → next ≡ next_own (with_taken (record c { holders = vacated c.holders left }) k) k.address → moved (with_taken (record c { holders = vacated c.holders left }) k) k.moment next ≡ moved (with_taken (without_left c k) k) k.moment (next_own (with_taken (without_left c k) k) k.address)
unfolding left_by
gives_way c k left next l e = grind arith

-- and that is told, with the address left
pub gives_way_tells : (c : Claims) (k : Claim) (left next : Option ℕ) (own : OwnAnswer) → left ≡ other_than k.address (position (is_held_by k.name) c.holders) → next ≡ next_own (with_taken (record c { holders = vacated c.holders left }) k) k.address → own ≡ (moved (with_taken (record c { holders = vacated c.holders left }) k) k.moment next).step.own → record (step_of None own) { released = left } ≡ (with_released (left_by c k) (moved (with_taken (without_left c k) k) k.moment (next_own (with_taken (without_left c k) k) k.address))).step
unfolding left_by
gives_way_tells c k left next own l e o = grind arith
