use Rattle.std.proofs.Common.{◌≡◌, ◌≢◌, ℕ, ◌<◌, ◌≤◌, ◌==◌, nat_lt, ◌↔◌, IsTrue, Bool, true, false, Option, None, Some, refl, arith}
use Rattle.std.proofs.lemmas.Bool.{eqb-true, eq-eqb}
use Rattle.std.proofs.lemmas.Bool.Decides.{nat_tests}
use Rattle.claim_table.specs.declared.answer.Holder.{Holder}
use Rattle.claim_table.specs.Cases.{CanGoTo, IsCase, IsOthers, duplicate, cannot_claim, free, kept, won}
use Rattle.claim_table.specs.Claims.{Claims, Claim, at_address, at_held, at_other, at_own, claim, holder_at, is_at, is_obeyed, left_by, settled, by_name, with_released, without_left}

pub not_eqb : (a b : ℕ) → (a == b) ≡ false → a ≢ b
not_eqb a b e same = let equal : (a == b) ≡ true = eq-eqb a b same in cc

pub lt_true : (a b : ℕ) → nat_lt a b ≡ true → a < b
lt_true a b e = grind (arith, nat_tests)

pub lt_false : (a b : ℕ) → nat_lt a b ≡ false → b ≤ a
lt_false a b e = grind (arith, nat_tests)

pub is_at-true : (a : ℕ) (own : Option ℕ) → is_at a own ≡ true → own ≡ Some a
is_at-true a own e = grind arith

pub is_at-false : (a : ℕ) (own : Option ℕ) → is_at a own ≡ false → own ≢ Some a
is_at-false a own e h = grind arith

held_case : (c : Claims) (k : Claim) (h : Holder) (b : Bool) → IsOthers c k → c.own ≢ Some k.address → holder_at (without_left c k).holders k.address ≡ Some h → nat_lt k.name h.name.0 ≡ b → IsCase c k (with_released (left_by c k) (at_held (without_left c k) k h b))
held_case c k h true o n e l = won o n h e (lt_true k.name h.name.0 l) refl
held_case c k h false o n e l = kept o n h e (lt_false k.name h.name.0 l) refl

other_case : (c : Claims) (k : Claim) (x : Option Holder) → IsOthers c k → c.own ≢ Some k.address → holder_at (without_left c k).holders k.address ≡ x → IsCase c k (with_released (left_by c k) (at_other (without_left c k) k x))
other_case c k None o n e = free o n e refl
other_case c k (Some h) o n e = held_case c k h (nat_lt k.name h.name.0) o n e refl

own_case : (c : Claims) (k : Claim) (b : Bool) → IsOthers c k → c.own ≡ Some k.address → nat_lt c.name k.name ≡ b → IsCase c k (with_released (left_by c k) (at_own (without_left c k) k b))
own_case c k b o own l = grind arith

address_case : (c : Claims) (k : Claim) (b : Bool) → IsOthers c k → is_at k.address c.own ≡ b → IsCase c k (with_released (left_by c k) (at_address (without_left c k) k b))
address_case c k true o e = own_case c k (nat_lt c.name k.name) o (is_at-true k.address c.own e) refl
address_case c k false o e = other_case c k (holder_at (without_left c k).holders k.address) o (is_at-false k.address c.own e) refl

settled_case : (c : Claims) (k : Claim) (b : Bool) → k.name ≢ c.name → (k.address == 254) ≡ b → IsCase c k (with_released (left_by c k) (settled (without_left c k) k b))
settled_case c k true n e = cannot_claim n (eqb-true k.address 254 e) refl
settled_case c k false n e = address_case c k (is_at k.address c.own) (record { name = n; address = not_eqb k.address 254 e }) refl

name_case : (c : Claims) (k : Claim) (b : Bool) → (k.name == c.name) ≡ b → IsCase c k (by_name c k b)
name_case c k true e = duplicate (eqb-true k.name c.name e) refl
name_case c k false e = settled_case c k (k.address == 254) (not_eqb k.name c.name e) refl

-- each claim is one of the seven cases
pub claim_case : (c : Claims) (k : Claim) → IsCase c k (claim c k)
unfolding claim
claim_case c k = name_case c k (k.name == c.name) refl

-- a command is obeyed exactly where the gateway can go to the address
pub obeyed_tells : (c : Claims) (a : ℕ) → IsTrue (is_obeyed c a) ↔ CanGoTo c a
unfolding is_obeyed
obeyed_tells c a = grind arith
