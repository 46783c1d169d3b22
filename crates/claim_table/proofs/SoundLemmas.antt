use Rattle.std.proofs.Common.{◌≡◌, ◌≢◌, ℕ, zero, suc, ◌<◌, ◌⊎◌, ◌==◌, Bool, true, false, Option, None, Some, List, [], ◌∷◌, length, set, refl, sym, ap, ◌∙◌, arith}
use Rattle.std.specs.List.{position}
use Rattle.std.proofs.lemmas.Bool.{eqb-true, eq-eqb}
use Rattle.std.proofs.lemmas.List.{get_or-set_same, get_or-set_other, length-set}
use Rattle.std.proofs.lemmas.List.Quantifiers.{position-Some}
use Rattle.std.proofs.lemmas.List.Sums.{prefix_len_passes}
use Rattle.claim_table.specs.declared.answer.Holder.{Holder}
use Rattle.claim_table.specs.Claims.{Claims, Claim, holder_at, is_held_by, left_by, other_than, unless_at, vacated, with_taken, without_left}
use Rattle.claim_table.specs.Laws.{IsSound}
use Rattle.claim_table.proofs.CaseLemmas.{lt_false}

-- a holder stands in the table
pub held_within : (holders : List (Option Holder)) (b : ℕ) (h : Holder) → holder_at holders b ≡ Some h → b < length holders
held_within [] b h e = cc
held_within (x ∷ holders) zero h e = omega arith
held_within (x ∷ holders) (suc b) h e = omega (arith, held_within holders b h e)

-- two numbers are equal or not
pub same_or_not : (a b : ℕ) → (a ≡ b) ⊎ (a ≢ b)
same_or_not a b = grind arith

-- an address that was vacated has no holder
pub none_at_set : (holders : List (Option Holder)) (b : ℕ) → holder_at (set holders b None) b ≡ None
none_at_set [] b = refl
none_at_set (x ∷ holders) zero = refl
none_at_set (x ∷ holders) (suc b) = none_at_set holders b

-- vacating an address gives no other a holder
pub vacated_holder : (holders : List (Option Holder)) (left : Option ℕ) (b : ℕ) (h : Holder) → holder_at (vacated holders left) b ≡ Some h → holder_at holders b ≡ Some h
vacated_holder holders left b h e = grind (arith, same_or_not, none_at_set, get_or-set_other)

-- nor takes another's away
pub vacated_other : (holders : List (Option Holder)) (left : Option ℕ) (b : ℕ) → left ≢ Some b → holder_at (vacated holders left) b ≡ holder_at holders b
vacated_other holders left b n = grind (arith, get_or-set_other)

pub vacated_free : (holders : List (Option Holder)) (left : Option ℕ) (b : ℕ) → holder_at holders b ≡ None → holder_at (vacated holders left) b ≡ None
vacated_free holders left b e = grind (arith, vacated_holder)

-- the address left isn't the one claimed
pub left_elsewhere : (c : Claims) (k : Claim) → left_by c k ≢ Some k.address
unfolding left_by
left_elsewhere c k = grind arith

-- who is found by a NAME has it
found_by_name : (n : ℕ) (x : Option Holder) → is_held_by n x ≡ true → (h : Holder) × (x ≡ Some h) × (h.name.0 ≡ n)
found_by_name n x e = grind arith

pub position_none : (p : Option Holder → Bool) (holders : List (Option Holder)) (b : ℕ) → position p holders ≡ None → b < length holders → p (holder_at holders b) ≡ false
position_none p holders b e l = grind (arith, lt_false, prefix_len_passes)

-- once a NAME has left its other address, it holds none but the one that it claims
pub alone : (c : Claims) (k : Claim) → IsSound c → (b : ℕ) (h : Holder) → holder_at (without_left c k).holders b ≡ Some h → h.name.0 ≡ k.name → b ≡ k.address
unfolding left_by
alone c k sound b h e n = by (position (is_held_by k.name) c.holders) refl e
  where
    named : is_held_by k.name (Some h) ≡ true
    named = eq-eqb h.name.0 k.name n

    unless : (p : ℕ) (t : Bool) → (p == k.address) ≡ t → position (is_held_by k.name) c.holders ≡ Some p → holder_at (vacated c.holders (unless_at t p)) b ≡ Some h → b ≡ k.address
    unless p true f g e =
        let found = position-Some (is_held_by k.name) c.holders p None g in
        let entry = found_by_name k.name (holder_at c.holders p) found.1 in
        sound.one_each b p h entry.0 e entry.1 (n ∙ sym entry.2) ∙ eqb-true p k.address f
    unless p false f g e =
        let found = position-Some (is_held_by k.name) c.holders p None g in
        let entry = found_by_name k.name (holder_at c.holders p) found.1 in
        let was : holder_at c.holders b ≡ Some h = vacated_holder c.holders (Some p) b h e in
        let same : b ≡ p = sound.one_each b p h entry.0 was entry.1 (n ∙ sym entry.2) in
        let gone : holder_at (set c.holders p None) b ≡ None = rw same (none_at_set c.holders p) in
        cc

    by : (x : Option ℕ) → position (is_held_by k.name) c.holders ≡ x → holder_at (vacated c.holders (other_than k.address x)) b ≡ Some h → b ≡ k.address
    by None f e =
        let not_named : is_held_by k.name (holder_at c.holders b) ≡ false = position_none (is_held_by k.name) c.holders b f (held_within c.holders b h e) in
        let same : is_held_by k.name (holder_at c.holders b) ≡ is_held_by k.name (Some h) = ap (is_held_by k.name) e in
        let both : false ≡ true = sym not_named ∙ same ∙ named in
        cc
    by (Some p) f e = unless p (p == k.address) refl f e

-- leaving an address keeps a table sound
pub without_left_sound : (c : Claims) (k : Claim) → IsSound c → IsSound (without_left c k)
without_left_sound c k sound = grind (arith, vacated_holder, vacated_free, length-set)

-- who holds an address after one was taken
pub taken_holder : (holders : List (Option Holder)) (a : ℕ) (new : Holder) (b : ℕ) (h : Holder) → holder_at (set holders a (Some new)) b ≡ Some h → ((b ≡ a) × (h ≡ new)) ⊎ ((b ≢ a) × (holder_at holders b ≡ Some h))
taken_holder holders a new b h e = grind (arith, same_or_not, held_within, length-set, get_or-set_same, get_or-set_other)

-- an address taken by a NAME that holds no other keeps a table sound, with an own address that is free
pub taken_sound : (d : Claims) (k : Claim) (own : Option ℕ) (m : ℕ) → IsSound d → ((b : ℕ) (h : Holder) → holder_at d.holders b ≡ Some h → h.name.0 ≡ k.name → b ≡ k.address) → k.name ≢ d.name → ((b : ℕ) → own ≡ Some b → holder_at (with_taken d k).holders b ≡ None) → ((b : ℕ) → own ≡ Some b → b < 252) → IsSound (record { name = d.name; holders = (with_taken d k).holders; own = own; counted_from = m })
taken_sound d k own m sound single n free within = grind (arith, length-set, taken_holder)
