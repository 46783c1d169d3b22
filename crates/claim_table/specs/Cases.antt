use Rattle.std.specs.Prelude.{◌≡◌, ◌≢◌, ℕ, ◌+◌, ◌<◌, ◌≤◌, None, Some, IsSome}
use Rattle.claim_table.specs.declared.answer.Holder.{Holder}
use Rattle.claim_table.specs.declared.answer.OwnAnswer.TheVariants.{Silent, Defend, Duplicate}
use Rattle.claim_table.specs.Claims.{Claims, Claim, Outcome, claim_wait, move_places, holder_at, left_by, moved, next_own, outcome, with_released, with_taken, without_left}

-- another device's claim, after its NAME has left the address that it held
pub record IsOthers (c : Claims) (k : Claim) : Type 0 where
  pub name : k.name ≢ c.name
  pub address : k.address ≢ 254

-- the seven cases of a claim and what comes of it
pub data IsCase (c : Claims) (k : Claim) (o : Outcome) : Type 0 where
  -- 1: the gateway's own NAME
  duplicate : k.name ≡ c.name → o ≡ outcome c None Duplicate → IsCase c k o
  -- 2: a device that can claim no address
  cannot_claim : k.name ≢ c.name → k.address ≡ 254 → o ≡ with_released (left_by c k) (outcome (without_left c k) None Silent) → IsCase c k o
  -- 3: the own address, by a greater NAME
  defended : IsOthers c k → c.own ≡ Some k.address → c.name < k.name → o ≡ with_released (left_by c k) (outcome (without_left c k) None Defend) → IsCase c k o
  -- 4: the own address, by a smaller NAME
  given_up : IsOthers c k → c.own ≡ Some k.address → k.name < c.name → o ≡ with_released (left_by c k) (moved (with_taken (without_left c k) k) k.moment (next_own (with_taken (without_left c k) k) k.address)) → IsCase c k o
  -- 5: a free address
  free : IsOthers c k → c.own ≢ Some k.address → holder_at (without_left c k).holders k.address ≡ None → o ≡ with_released (left_by c k) (outcome (with_taken (without_left c k) k) None Silent) → IsCase c k o
  -- 6: the address of a holder that is the claiming NAME or smaller
  kept : IsOthers c k → c.own ≢ Some k.address → (h : Holder) → holder_at (without_left c k).holders k.address ≡ Some h → h.name.0 ≤ k.name → o ≡ with_released (left_by c k) (outcome (without_left c k) None Silent) → IsCase c k o
  -- 7: the address of a greater holder
  won : IsOthers c k → c.own ≢ Some k.address → (h : Holder) → holder_at (without_left c k).holders k.address ≡ Some h → k.name < h.name.0 → o ≡ with_released (left_by c k) (outcome (with_taken (without_left c k) k) (Some (k.address, h.name)) Silent) → IsCase c k o

-- where a command to go to an address is obeyed
pub record CanGoTo (c : Claims) (a : ℕ) : Type 0 where
  pub within : a < move_places
  pub elsewhere : c.own ≢ Some a
  pub free : holder_at c.holders a ≡ None

-- when a device may send: it has had its address for the wait of a claim
pub record IsReady (c : Claims) (m : ℕ) : Type 0 where
  pub own : IsSome c.own
  pub waited : c.counted_from + claim_wait ≤ m
