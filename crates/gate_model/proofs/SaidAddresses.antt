-- The addresses that a claim takes away from others are below the places of the table (ISO 11783-5).
use Rattle.std.proofs.Common.{◌≡◌, ℕ, ◌<◌, Bool, true, false, List, length, refl, sym, subst, ◌==◌}
use Rattle.std.specs.Prelude.{Option, Some, None, IfSome, position, nat_lt, if◌then◌else◌}
use Rattle.std.specs.List.{position_or_len}
use Rattle.std.proofs.lemmas.Bool.{ltb-true}
use Rattle.claim_table.specs.Cases.{IsCase, duplicate, cannot_claim, defended, given_up, free, kept, won}
use Rattle.claim_table.specs.Claims.{Claims, Claim, Outcome, claim, is_held_by, left_by, other_than, unless_at, moved, next_own, with_released, with_taken, without_left}
use Rattle.claim_table.specs.declared.answer.Holder.{Holder}
use Rattle.claim_table.proofs.CaseLemmas.{claim_case}
use Rattle.claim_table.proofs.SoundLemmas.{held_within, vacated_holder}
use Rattle.history.specs.Known.{address_left, address_won}
use Rattle.gate_model.specs.SaidLaws.{ClaimsFit}

place_below : (p : Option Holder → Bool) (holders : List (Option Holder)) (i : ℕ) → position p holders ≡ Some i → i < length holders
place_below p holders i e = by (nat_lt (position_or_len p holders) (length holders)) refl e
  where
    by : (t : Bool) → nat_lt (position_or_len p holders) (length holders) ≡ t → (if t then Some (position_or_len p holders) else None) ≡ Some i
        → i < length holders
    by true l f =
        let same : position_or_len p holders ≡ i = cc in
        subst (λ (j : ℕ). j < length holders) same (ltb-true (position_or_len p holders) (length holders) l)
    by false l f = cc

elsewhere_below : (most a : ℕ) (o : Option ℕ) → IfSome o (λ b. b < most) → IfSome (other_than a o) (λ b. b < most)
elsewhere_below most a None le = tt
elsewhere_below most a (Some b) le = by (b == a)
  where
    by : (t : Bool) → IfSome (unless_at t b) (λ x. x < most)
    by true = tt
    by false = le

left_below : (c : Claims) (k : Claim) → IfSome (left_by c k) (λ a. a < length c.holders)
unfolding left_by
left_below c k = elsewhere_below (length c.holders) k.address (position (is_held_by k.name) c.holders) (by (position (is_held_by k.name) c.holders) refl)
  where
    by : (p : Option ℕ) → position (is_held_by k.name) c.holders ≡ p → IfSome p (λ a. a < length c.holders)
    by None e = tt
    by (Some i) e = place_below (is_held_by k.name) c.holders i e

module _ (c : Claims) (k : Claim) where
  record Fits (o : Outcome) : Type 0 where
    left : IfSome (address_left o.step) (λ a. a < length c.holders)
    won : IfSome (address_won o.step) (λ a. a < length c.holders)

  moved_fits : (next : Option ℕ) → Fits (with_released (left_by c k) (moved (with_taken (without_left c k) k) k.moment next))
  moved_fits None = record { left = left_below c k; won = tt }
  moved_fits (Some next) = record { left = left_below c k; won = tt }

  case_fits : (o : Outcome) → IsCase c k o → Fits o
  case_fits o (duplicate name e) = subst Fits (sym e) (record { left = tt; won = tt })
  case_fits o (cannot_claim name address e) = subst Fits (sym e) (record { left = left_below c k; won = tt })
  case_fits o (defended others own greater e) = subst Fits (sym e) (record { left = left_below c k; won = tt })
  case_fits o (given_up others own smaller e) = subst Fits (sym e) (moved_fits (next_own (with_taken (without_left c k) k) k.address))
  case_fits o (free others elsewhere nobody e) = subst Fits (sym e) (record { left = left_below c k; won = tt })
  case_fits o (kept others elsewhere h there smaller e) = subst Fits (sym e) (record { left = left_below c k; won = tt })
  case_fits o (won others elsewhere h there greater e) =
      subst Fits (sym e) (record { left = left_below c k; won = held_within c.holders k.address h (vacated_holder c.holders (left_by c k) k.address h there) })

pub claims_fit : ClaimsFit
claims_fit c k room =
    let fits = case_fits c k (claim c k) (claim_case c k) in
    record {
      left = subst (λ (n : ℕ). IfSome (address_left (claim c k).step) (λ a. a < n)) room fits.left;
      won = subst (λ (n : ℕ). IfSome (address_won (claim c k).step) (λ a. a < n)) room fits.won;
    }
