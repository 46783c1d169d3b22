-- Who holds which address (ISO 11783-5): what is known before anything came, and what a claim and a command change.
use Rattle.std.specs.Prelude.{ℕ, zero, suc, ◌+◌, ◌%◌, ◌==◌, ◌&&◌, ◌≤◌, Bool, true, false, not, nat_lt, nat_le, Option, None, Some, is_some, is_none, List, position, slice_index_or, slice_set, ◌||◌, [], ◌∷◌, replicate}
use Rattle.n2k_id.specs.declared.name.Name.{Name}
use Rattle.n2k_id.specs.Name.{is_arbitrary}
use Rattle.claim_table.specs.declared.answer.Holder.{Holder}
use Rattle.claim_table.specs.declared.answer.ClaimStep.{ClaimStep}
use Rattle.claim_table.specs.declared.answer.OwnAnswer.{OwnAnswer}
use Rattle.claim_table.specs.declared.answer.OwnAnswer.TheVariants.{Silent, Defend, Move, CannotClaim, Duplicate}
use Rattle.std.specs.List.{list_any}
use Rattle.claim_table.specs.declared.preset.Preset.{Preset}

-- a device can hold an address of 0 to 253
abbrev pub places : ℕ
places = 254

-- the gateway may go to an address of 0 to 251
abbrev pub move_places : ℕ
move_places = 252

-- how long a device has its address before it sends anything else (ISO 11783-5): 250 milliseconds
abbrev pub claim_wait : ℕ
claim_wait = 250000

-- what the gateway knows of the bus's addresses
pub record Claims : Type 0 where
  -- the gateway's own NAME
  pub name : ℕ
  -- who holds each address, from 0 to 253
  pub holders : List (Option Holder)
  -- the gateway's own address
  pub own : Option ℕ
  -- the moment from which readiness is counted
  pub counted_from : ℕ

-- a claim: the address, the NAME that claims it, the index and the moment of the event
pub record Claim : Type 0 where
  pub address : ℕ
  pub name : ℕ
  pub index : ℕ
  pub moment : ℕ

abbrev pub claim_of : ℕ → ℕ → ℕ → ℕ → Claim
claim_of address name index moment = record { address = address; name = name; index = index; moment = moment }

-- what a claim leaves, and what is told of it
pub record Outcome : Type 0 where
  pub after : Claims
  pub step : ClaimStep

abbrev pub step_of : Option (ℕ × Name) → OwnAnswer → ClaimStep
step_of lost own = record { lost = lost; released = None; own = own }

abbrev pub outcome : Claims → Option (ℕ × Name) → OwnAnswer → Outcome
outcome c lost own = record { after = c; step = step_of lost own }

-- who holds an address: nobody beyond the table
abbrev pub holder_at : List (Option Holder) → ℕ → Option Holder
holder_at holders a = slice_index_or holders a None

-- no later than this index
abbrev pub IsSinceBy : ℕ → Option Holder → Type 0
IsSinceBy i None = Unit {0}
IsSinceBy i (Some h) = h.since ≤ i

-- the place has this NAME
abbrev pub is_held_by : ℕ → Option Holder → Bool
is_held_by n None = false
is_held_by n (Some h) = h.name.0 == n

abbrev pub is_at : ℕ → Option ℕ → Bool
is_at a None = false
is_at a (Some b) = b == a

abbrev pub unless_at : Bool → ℕ → Option ℕ
unless_at true b = None
unless_at false b = Some b

-- an address where it isn't this one
abbrev pub other_than : ℕ → Option ℕ → Option ℕ
other_than a None = None
other_than a (Some b) = unless_at (b == a) b

-- the address that a NAME leaves by claiming another
unfoldable pub left_by : Claims → Claim → Option ℕ
left_by c k = other_than k.address (position (is_held_by k.name) c.holders)

-- nobody holds this address any more
abbrev pub vacated : List (Option Holder) → Option ℕ → List (Option Holder)
vacated holders None = holders
vacated holders (Some b) = slice_set holders b None

-- the claiming NAME's entry at another address is gone
abbrev pub without_left : Claims → Claim → Claims
without_left c k = record c { holders = vacated c.holders (left_by c k) }

abbrev pub holder_by : Claim → Holder
holder_by k = record { name = record { 0 = k.name }; since = k.index }

-- the claiming NAME holds the address since this event
abbrev pub with_taken : Claims → Claim → Claims
with_taken c k = record c { holders = slice_set c.holders k.address (Some (holder_by k)) }

-- the address after this one, in cyclic order over 0 to 251
abbrev pub following : ℕ → ℕ
following a = (a + 1) % move_places

-- the first free one of k addresses, of which the first is b with this holder
unfoldable pub free_from : ℕ → List (Option Holder) → ℕ → Option Holder → Option ℕ
free_from zero holders b x = None
free_from (suc k) holders b None = Some b
free_from (suc k) holders b (Some h) = free_from k holders (following b) (holder_at holders (following b))

-- the first free address after this one
unfoldable pub next_free : List (Option Holder) → ℕ → Option ℕ
next_free holders a = free_from move_places holders (following a) (holder_at holders (following a))

abbrev pub when : Bool → Option ℕ → Option ℕ
when true o = o
when false o = None

-- where a device that has lost this address goes: nowhere, if its NAME isn't arbitrary address capable
unfoldable pub next_own : Claims → ℕ → Option ℕ
next_own c a = when (is_arbitrary c.name) (next_free c.holders a)

-- the gateway goes to this address, or has none
abbrev pub moved : Claims → ℕ → Option ℕ → Outcome
moved c m None = outcome (record c { own = None }) None CannotClaim
moved c m (Some b) = outcome (record c { own = Some b; counted_from = m }) None (Move b)

-- the own address is claimed, by a greater NAME or not
abbrev pub at_own : Claims → Claim → Bool → Outcome
at_own c k true = outcome c None Defend
at_own c k false = moved (with_taken c k) k.moment (next_own (with_taken c k) k.address)

-- the address of a holder is claimed, by a smaller NAME or not
abbrev pub at_held : Claims → Claim → Holder → Bool → Outcome
at_held c k h true = outcome (with_taken c k) (Some (k.address, h.name)) Silent
at_held c k h false = outcome c None Silent

-- an address is claimed that isn't the own one
abbrev pub at_other : Claims → Claim → Option Holder → Outcome
at_other c k None = outcome (with_taken c k) None Silent
at_other c k (Some h) = at_held c k h (nat_lt k.name h.name.0)

-- the claiming NAME, which has no other address now, claims the own address or not
abbrev pub at_address : Claims → Claim → Bool → Outcome
at_address c k true = at_own c k (nat_lt c.name k.name)
at_address c k false = at_other c k (holder_at c.holders k.address)

-- it says that it can claim none (address 254) or not
abbrev pub settled : Claims → Claim → Bool → Outcome
settled c k true = outcome c None Silent
settled c k false = at_address c k (is_at k.address c.own)

-- the address that the claiming NAME left is told as well
abbrev pub with_released : Option ℕ → Outcome → Outcome
with_released left o = record o { step = record o.step { released = left } }

-- the claiming NAME is the own one or not
abbrev pub by_name : Claims → Claim → Bool → Outcome
by_name c k true = outcome c None Duplicate
by_name c k false = with_released (left_by c k) (settled (without_left c k) k (k.address == 254))

-- one claim
unfoldable pub claim : Claims → Claim → Outcome
claim c k = by_name c k (k.name == c.name)

-- the gateway goes to this address, if it obeys
abbrev pub moved_if : Bool → Claims → ℕ → ℕ → Claims
moved_if true c a m = record c { own = Some a; counted_from = m }
moved_if false c a m = c

-- a command is obeyed where the address is one that a device may have, isn't the own one and is free
unfoldable pub is_obeyed : Claims → ℕ → Bool
is_obeyed c a = nat_lt a move_places && not (is_at a c.own) && is_none (holder_at c.holders a)

-- one command to go to an address
unfoldable pub command : Claims → ℕ → ℕ → Claims
command c a m = moved_if (is_obeyed c a) c a m

-- readiness is counted from this moment
abbrev pub started : Claims → ℕ → Claims
started c m = record c { counted_from = m }

-- the gateway has had its address for the wait of a claim
abbrev pub is_ready : Claims → ℕ → Bool
is_ready c m = is_some c.own && nat_le (c.counted_from + claim_wait) m

-- a request for the gateway's claim is answered by it, or by cannot claim
abbrev pub answer_to_request : Option ℕ → OwnAnswer
answer_to_request None = CannotClaim
answer_to_request (Some a) = Defend

abbrev pub shares : Preset → Preset → Bool
shares p q = p.address == q.address || p.name.0 == q.name.0

-- two presets share an address or a NAME
abbrev pub repeats : List Preset → Bool
repeats [] = false
repeats (p ∷ ps) = list_any (shares p) ps || repeats ps

-- a preset has this NAME or this address
abbrev pub takes : ℕ → ℕ → List Preset → Bool
takes name address ps = list_any (λ p. p.address == address || p.name.0 == name) ps

-- a preset's device holds its address since the first index
abbrev pub preset_holder : Preset → Holder
preset_holder p = record { name = p.name; since = 0 }

-- the presets put into a table
abbrev pub with_presets : List (Option Holder) → List Preset → List (Option Holder)
with_presets holders [] = holders
with_presets holders (p ∷ ps) = with_presets (slice_set holders p.address (Some (preset_holder p))) ps

-- what is known before the first event
unfoldable pub claims_at_start : ℕ → ℕ → List Preset → Claims
claims_at_start name preferred ps = record {
  name = name;
  holders = with_presets (replicate places None) ps;
  own = Some preferred;
  counted_from = 0;
}
