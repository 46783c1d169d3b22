-- Who holds an address after a claim.
use Rattle.std.proofs.Common.{◌≡◌, ◌≢◌, ℕ, zero, suc, ◌⊎◌, inl, inr, Bool, true, false, ◌||◌, List, [], ◌∷◌, set, refl, sym, ap, subst, ◌==◌, arith}
use Rattle.std.specs.Prelude.{Option, Some, None}
use Rattle.std.proofs.lemmas.Bool.{cases_Bool, eqb-true, eq-eqb}
use Rattle.std.proofs.lemmas.List.{get_or-set_other}
use Rattle.claim_table.specs.declared.answer.Holder.{Holder}
use Rattle.claim_table.specs.declared.answer.OwnAnswer.{OwnAnswer}
use Rattle.claim_table.specs.declared.answer.OwnAnswer.TheVariants.{Silent, Defend}
use Rattle.claim_table.specs.Claims.{Claims, Claim, Outcome, holder_at, holder_by, is_at, left_by, vacated, outcome, moved, with_released, with_taken, without_left, claim}
use Rattle.claim_table.specs.Laws.{IsSound}
use Rattle.claim_table.specs.Cases.{IsCase, duplicate, cannot_claim, defended, given_up, free, kept, won}
use Rattle.claim_table.proofs.CaseLemmas.{claim_case, is_at-true, is_at-false, not_eqb}
use Rattle.claim_table.proofs.SoundLemmas.{none_at_set, vacated_other, vacated_free, left_elsewhere}
use Rattle.history.specs.Known.{address_won}
use Rattle.history.specs.TraceLaws.{is_lost}

-- an address is held as before, or since the claim, or no more
pub data Fate (c : Claims) (k : Claim) (o : Outcome) (a : ℕ) : Type 0 where
  stays : is_lost o.step a ≡ false → holder_at o.after.holders a ≡ holder_at c.holders a → Fate c k o a
  begins : (holder_at o.after.holders a ≡ Some (holder_by k)) ⊎ (holder_at o.after.holders a ≡ None) → (is_lost o.step a ≡ true) ⊎ (holder_at c.holders a ≡ None) → Fate c k o a

-- where the claim takes no address
untaken : (c : Claims) (k : Claim) (own : OwnAnswer) (a : ℕ) → Fate c k (with_released (left_by c k) (outcome (without_left c k) None own)) a
untaken c k own a = grind (arith, is_at-true, eqb-true, none_at_set, vacated_other, is_at-false)

-- who holds an address of a table once one was given to a holder
at_set : (holders : List (Option Holder)) (b : ℕ) (x : Holder) → (holder_at (set holders b (Some x)) b ≡ Some x) ⊎ (holder_at (set holders b (Some x)) b ≡ None)
at_set [] b x = inr refl
at_set (y ∷ holders) zero x = inl refl
at_set (y ∷ holders) (suc b) x = at_set holders b x

pub same_or_other : (a b : ℕ) → (a ≡ b) ⊎ (a ≢ b)
same_or_other a b = elim (cases_Bool (a == b)) [ inl e ↦ inl (eqb-true a b e) | inr e ↦ inr (not_eqb a b e) ]

-- where it takes one: another NAME's, or one that nobody has
module _ (c : Claims) (k : Claim) (o : Outcome) (left : Option ℕ) (elsewhere : left ≢ Some k.address)
    (released : o.step.released ≡ left) (holders : o.after.holders ≡ set (vacated c.holders left) k.address (Some (holder_by k)))
    (from : (is_at k.address (address_won o.step) ≡ true) ⊎ ((address_won o.step ≡ None) × (holder_at (vacated c.holders left) k.address ≡ None)))
    (only : (a : ℕ) → a ≢ k.address → is_at a (address_won o.step) ≡ false) where
  lost_is : (a : ℕ) (b w : Bool) → is_at a left ≡ b → is_at a (address_won o.step) ≡ w → is_lost o.step a ≡ (b || w)
  lost_is a b w e f = rw (released, e, f) refl

  held : (a : ℕ) → holder_at o.after.holders a ≡ holder_at (set (vacated c.holders left) k.address (Some (holder_by k))) a
  held a = ap (λ (x : List (Option Holder)). holder_at x a) holders

  or_true : (b : Bool) → (b || true) ≡ true
  or_true b = grind arith

  own_place : Fate c k o k.address
  own_place = grind (arith, at_set, held, lost_is, or_true, vacated_other)

  other_place : (a : ℕ) → a ≢ k.address → (b : Bool) → is_at a left ≡ b → Fate c k o a
  other_place a n b e = grind (arith, is_at-true, held, get_or-set_other, lost_is, none_at_set, vacated_other, is_at-false)

  pub taken : (a : ℕ) → Fate c k o a
  taken a = elim (same_or_other a k.address) [ inl e ↦ subst (Fate c k o) (sym e) own_place | inr n ↦ other_place a n (is_at a left) refl ]

at_same : (a : ℕ) → is_at a (Some a) ≡ true
at_same a = eq-eqb a a refl

at_other : (a b : ℕ) → a ≢ b → is_at a (Some b) ≡ false
at_other a b n = elim (cases_Bool (b == a)) [ inl e ↦ absurd (n (sym (eqb-true b a e))) | inr e ↦ e ]

-- the own address was nobody's
own_nobody : (c : Claims) (k : Claim) → IsSound c → c.own ≡ Some k.address → holder_at (vacated c.holders (left_by c k)) k.address ≡ None
own_nobody c k sound own = vacated_free c.holders (left_by c k) k.address (sound.own_free k.address own)

moved_fate : (c : Claims) (k : Claim) → IsSound c → c.own ≡ Some k.address → (next : Option ℕ) (a : ℕ)
    → Fate c k (with_released (left_by c k) (moved (with_taken (without_left c k) k) k.moment next)) a
moved_fate c k sound own None a =
    taken c k (with_released (left_by c k) (moved (with_taken (without_left c k) k) k.moment None)) (left_by c k) (left_elsewhere c k) refl refl (inr (refl, own_nobody c k sound own)) (λ b n. refl) a
moved_fate c k sound own (Some next) a =
    taken c k (with_released (left_by c k) (moved (with_taken (without_left c k) k) k.moment (Some next))) (left_by c k) (left_elsewhere c k) refl refl (inr (refl, own_nobody c k sound own)) (λ b n. refl) a

by_case : (c : Claims) (k : Claim) (o : Outcome) → IsSound c → IsCase c k o → (a : ℕ) → Fate c k o a
by_case c k o sound (duplicate name e) a = subst (λ (x : Outcome). Fate c k x a) (sym e) (stays refl refl)
by_case c k o sound (cannot_claim name address e) a = subst (λ (x : Outcome). Fate c k x a) (sym e) (untaken c k Silent a)
by_case c k o sound (defended others own greater e) a = subst (λ (x : Outcome). Fate c k x a) (sym e) (untaken c k Defend a)
by_case c k o sound (given_up others own smaller e) a = grind (arith, moved_fate)
by_case c k o sound (free others elsewhere nobody_there e) a = grind (arith, taken, left_elsewhere)
by_case c k o sound (kept others elsewhere h there smaller e) a = subst (λ (x : Outcome). Fate c k x a) (sym e) (untaken c k Silent a)
by_case c k o sound (won others elsewhere h there greater e) a = grind (arith, taken, left_elsewhere, at_same, at_other)

pub fate : (c : Claims) (k : Claim) → IsSound c → (a : ℕ) → Fate c k (claim c k) a
fate c k sound a = by_case c k (claim c k) sound (claim_case c k) a
