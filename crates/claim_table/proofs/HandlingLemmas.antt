-- What the tests of the code say of a claim, a command and a moment.
use Rattle.std.proofs.Common.{◌≡◌, ℕ, ◌-◌, ◌+◌, ◌<◌, ◌≤◌, ◌↔◌, Bool, true, false, cond, IsTrue, eqb, ◌==◌, Less, Equal, Greater, is_lt, nat_cmp, Option, None, Some, refl, sym, ◌∙◌, arith}
use Rattle.std.specs.Prelude.{◌&&◌, is_none, is_some, nat_eq, nat_le, nat_lt, not, position}
use Rattle.std.specs.Option.{option_eq}
use Rattle.std.proofs.lemmas.Bool.Decides.{nat_tests}
use Rattle.claim_table.specs.declared.answer.Holder.{Holder}
use Rattle.claim_table.specs.declared.answer.OwnAnswer.TheVariants.{Duplicate}
use Rattle.claim_table.specs.Cases.{IsReady}
use Rattle.claim_table.specs.Claims.{Claims, Claim, at_own, claim, claim_wait, holder_at, is_at, is_held_by, is_obeyed, is_ready, left_by, move_places, other_than, outcome, places, settled, vacated, with_released, without_left}

-- ---- a claim

pub duplicates : (c : Claims) (k : Claim) → true ≡ nat_eq k.name c.name → claim c k ≡ outcome c None Duplicate
unfolding claim
duplicates c k same = rw (sym same) refl

-- of another device, which leaves this address
pub settles : (c : Claims) (k : Claim) (left : Option ℕ) → false ≡ nat_eq k.name c.name → left ≡ other_than k.address (position (is_held_by k.name) c.holders)
    → claim c k ≡ with_released left (settled (record c { holders = vacated c.holders left }) k (k.address == 254))
unfolding claim left_by
settles c k left other is = rw (sym other, is) refl

held_at : (own : Option ℕ) (a : ℕ) → is_at a own ≡ option_eq eqb own (Some a)
held_at None a = refl
held_at (Some b) a = refl

compared : (less same : Bool) → is_lt (cond less Less (cond same Equal Greater)) ≡ less
compared true same = refl
compared false true = refl
compared false false = refl

less_is : (a b : ℕ) → is_lt (nat_cmp a b) ≡ nat_lt a b
less_is a b = compared (nat_lt a b) (nat_eq a b)

pub yields : (c : Claims) (k : Claim) → false ≡ nat_eq k.name c.name → k.address < places → true ≡ option_eq eqb c.own (Some k.address) → true ≡ is_lt (nat_cmp k.name c.name)
    → claim c k ≡ with_released (left_by c k) (at_own (without_left c k) k false)
unfolding claim
yields c k other within own smaller =
    let address : (k.address == 254) ≡ false = grind (arith, nat_tests) in
    let here : is_at k.address c.own ≡ true = held_at c.own k.address ∙ sym own in
    let is_less : nat_lt k.name c.name ≡ true = sym (smaller ∙ less_is k.name c.name) in
    let less : nat_lt c.name k.name ≡ false = grind (arith, nat_tests) in
    rw (sym other, address, here, less) refl

pub greater : (a b : ℕ) → false ≡ nat_eq a b → false ≡ is_lt (nat_cmp a b) → b < a
greater a b other less = let not_less : nat_lt a b ≡ false = sym (less ∙ less_is a b) in grind (arith, nat_tests)

pub not_held : (own : Option ℕ) (a : ℕ) → false ≡ option_eq eqb own (Some a) → own ≡ Some a → ⊥
not_held None a other is = cc
not_held (Some b) a other is = let same : b ≡ a = cc in let differs : (b == a) ≡ false = sym other in grind (arith, nat_tests)

-- ---- a command

vacant : (h : Option Holder) (free : Bool) → is_some h ≡ not free → is_none h ≡ free
vacant None true e = refl
vacant None false e = cc
vacant (Some h) true e = cc
vacant (Some h) false e = refl

pub obeys : (c : Claims) (own : Option ℕ) (a : ℕ) (holder : Option Holder) (free : Bool) → own ≡ c.own → a < move_places → not (option_eq eqb own (Some a)) ≡ true
    → holder ≡ holder_at c.holders a → is_some holder ≡ not free → free ≡ is_obeyed c a
unfolding is_obeyed
obeys c own a holder free is within elsewhere held none =
    let less : nat_lt a move_places ≡ true = grind (arith, nat_tests) in
    let away : not (is_at a c.own) ≡ true = rw (← is, held_at own a) elsewhere in
    let open_there : is_none (holder_at c.holders a) ≡ free = rw (← held) (vacant holder free none) in
    rw (less, away, open_there) refl

pub too_great : (a : ℕ) → move_places ≤ a → nat_lt a move_places ≡ true → ⊥
too_great a great less = grind (arith, nat_tests)

-- ---- readiness

-- the wait is over where as much of it has passed
pub waited : (own : Option ℕ) (from moment passed : ℕ) → true ≡ is_some own → from ≤ moment → passed ≡ moment - from
    → nat_le claim_wait passed ≡ (is_some own && nat_le (from + claim_wait) moment)
waited own from moment passed has reached is = rw (sym has) (grind (arith, nat_tests))

pub ready_tells : (c : Claims) (moment : ℕ) (ready : Bool) → ready ≡ is_ready c moment → IsTrue ready ↔ IsReady c moment
ready_tells c moment ready is = rw is (grind arith)
