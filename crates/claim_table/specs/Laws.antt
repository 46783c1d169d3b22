use Rattle.std.specs.Prelude.{◌≡◌, ◌≢◌, ℕ, ◌+◌, ◌%◌, ◌<◌, ◌≤◌, min, ◌⊎◌, Option, None, Some, MatchOption, List, [], ◌∷◌, length, map, All}
use Rattle.n2k_id.specs.declared.name.Name.{Name}
use Rattle.claim_table.specs.declared.answer.Holder.{Holder}
use Rattle.claim_table.specs.declared.answer.OwnAnswer.TheVariants.{Defend}
use Rattle.claim_table.specs.Claims.{Claims, Claim, Outcome, IsSinceBy, move_places, places, claim, command, holder_at, is_obeyed, left_by, next_free, outcome, with_released, without_left}

-- what holds of every table of a running gateway
pub record IsSound (c : Claims) : Type 0 where
  pub room : length c.holders ≡ places
  -- no NAME holds two addresses
  pub one_each : (a b : ℕ) (h g : Holder) → holder_at c.holders a ≡ Some h → holder_at c.holders b ≡ Some g → h.name.0 ≡ g.name.0 → a ≡ b
  -- the own address has no other holder, and is one that a device may move to
  pub own_free : (a : ℕ) → c.own ≡ Some a → holder_at c.holders a ≡ None
  pub own_within : (a : ℕ) → c.own ≡ Some a → a < move_places
  -- the own NAME is no holder
  pub others : (a : ℕ) (h : Holder) → holder_at c.holders a ≡ Some h → h.name.0 ≢ c.name

pub data Step : Type 0 where
  claimed : Claim → Step
  commanded : ℕ → ℕ → Step

abbrev pub stepped : Claims → Step → Claims
stepped c (claimed k) = (claim c k).after
stepped c (commanded a m) = command c a m

-- the state after a list of claims and commands, of which the newest is the first
abbrev pub state_after : Claims → List Step → Claims
state_after c [] = c
state_after c (s ∷ older) = stepped (state_after c older) s

-- each claim of the list has this index or a smaller one
abbrev pub AreBy : ℕ → List Step → Type 0
AreBy i [] = Unit {0}
AreBy i (claimed k ∷ older) = (k.index ≤ i) × AreBy i older
AreBy i (commanded a m ∷ older) = AreBy i older

-- no list of claims and commands gives a NAME two addresses, or the own address or NAME a holder
abbrev pub StaysSound : Type 0
StaysSound = (c : Claims) (steps : List Step) → IsSound c → IsSound (state_after c steps)

-- one claim takes no address from a smaller NAME, the own one included
pub record TakesFromGreater (c : Claims) (k : Claim) : Type 0 where
  pub holders : (a : ℕ) (h g : Holder) → holder_at c.holders a ≡ Some h → holder_at (claim c k).after.holders a ≡ Some g → (g ≡ h) ⊎ (g.name.0 < h.name.0)
  pub own : (a : ℕ) → c.own ≡ Some a → (claim c k).after.own ≢ Some a → k.name < c.name

-- so it is after every list of claims and commands
abbrev pub SmallerNamesKeep : Type 0
SmallerNamesKeep = (c : Claims) (steps : List Step) (k : Claim) → IsSound c → TakesFromGreater (state_after c steps) k

-- a defence changes no address, own or other, but for the one that the claiming NAME leaves
abbrev pub DefenceKeeps : Type 0
DefenceKeeps =
    (c : Claims) (steps : List Step) (k : Claim) → IsSound c → (state_after c steps).own ≡ Some k.address → (state_after c steps).name < k.name → claim (state_after c steps) k ≡ with_released (left_by (state_after c steps) k) (outcome (without_left (state_after c steps) k) None Defend)

-- every holder has its address since an index that was reached
abbrev pub HoldersAreDated : Type 0
HoldersAreDated =
    (i : ℕ) (c : Claims) (steps : List Step) → All (IsSinceBy i) c.holders → AreBy i steps → All (IsSinceBy i) (state_after c steps).holders

-- the address j places after the one that follows a, in cyclic order over 0 to 251, has no holder
abbrev pub IsFreeAfter : List (Option Holder) → ℕ → ℕ → Type 0
IsFreeAfter holders a j = holder_at holders ((a + 1 + j) % move_places) ≡ None

-- a search gives the first of them, and nothing exactly where there is none
abbrev pub FindsFirstFree : Type 0
FindsFirstFree =
    (holders : List (Option Holder)) (a : ℕ) → MatchOption (next_free holders a) ((j : ℕ) → j < move_places → ¬ IsFreeAfter holders a j) (λ b. (j : ℕ) × (j < move_places) × (b ≡ (a + 1 + j) % move_places) × IsFreeAfter holders a j × ((i : ℕ) → i < j → ¬ IsFreeAfter holders a i))

-- ---- what no claim and no command touches, and what they do with indices

-- the address that a claim wins from another NAME isn't one that the claiming NAME leaves
abbrev pub WonIsNotLeft : Type 0
WonIsNotLeft =
    (c : Claims) (k : Claim) (won : ℕ × Name) → (claim c k).step.lost ≡ Some won → (won.0 ≡ k.address) × ((claim c k).step.released ≢ Some won.0)

-- no claim and no command gives the gateway another NAME
abbrev pub NameStays : Type 0
NameStays = (c : Claims) (s : Step) → (stepped c s).name ≡ c.name

-- a command changes no holder
abbrev pub CommandsKeepHolders : Type 0
CommandsKeepHolders = (c : Claims) (address moment : ℕ) → (command c address moment).holders ≡ c.holders

-- a holder whose index is counted no further than n
abbrev pub capped_holder : ℕ → Option Holder → Option Holder
capped_holder n None = None
capped_holder n (Some h) = Some (record { name = h.name; since = min n h.since })

abbrev pub capped : ℕ → Claims → Claims
capped n c = record c { holders = map (capped_holder n) c.holders }

abbrev pub capped_claim : ℕ → Claim → Claim
capped_claim n k = record k { index = min n k.index }

abbrev pub capped_outcome : ℕ → Outcome → Outcome
capped_outcome n o = record o { after = capped n o.after }

-- a gateway that counts entries no further than n tells and does what one does that counts on: no answer looks at an index
pub record CountsNoFurther (n : ℕ) (c : Claims) : Type 0 where
  pub claimed : (k : Claim) → claim (capped n c) (capped_claim n k) ≡ capped_outcome n (claim c k)
  pub obeyed : (address : ℕ) → is_obeyed (capped n c) address ≡ is_obeyed c address
  pub commanded : (address moment : ℕ) → command (capped n c) address moment ≡ capped n (command c address moment)

abbrev pub IndicesMayStop : Type 0
IndicesMayStop = (n : ℕ) (c : Claims) → CountsNoFurther n c
