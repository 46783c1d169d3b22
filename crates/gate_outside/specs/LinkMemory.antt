-- A link in memory, as its calls see it.
use Rattle.std.specs.Prelude.{◌≡◌, ◌+◌, ◌≤◌, ℕ, zero, suc, false, ◌&&◌, nat_le, if◌then◌else◌, List, [], ◌∷◌, ◌++◌, length, take, drop, replicate, slice_get, Option, Some, None, Ok}
use Rattle.std.specs.Global.{Vec}
use Rattle.gate_outside.specs.declared.handover.Parcel.{Parcel}
use Rattle.gate_outside.specs.declared.link.Arrival.{Arrival}
use Rattle.gate_outside.specs.declared.link.Arrival.TheVariants.{Bytes, Nothing}
use Rattle.gate_outside.specs.Link.{Handed, Outcome, Traffic, Attachment}

-- what was handed over, for as long as it is told, and how much is told at most
pub record HandedOver : Type 0 where
  pub handed : Option (List Handed)
  pub room : ℕ
  pub most : ℕ

-- the pairs whose bytes stand behind one another
abbrev pub pairs_of : List Parcel → List ℕ → List Handed
pairs_of [] bytes = []
pairs_of (parcel ∷ parcels) bytes = (parcel.group, take parcel.len bytes) ∷ pairs_of parcels (drop parcel.len bytes)

-- how many bytes the parcels have, and the pairs
abbrev pub total_len : List Parcel → ℕ
total_len [] = 0
total_len (parcel ∷ parcels) = parcel.len + total_len parcels

abbrev pub bytes_in : List Handed → ℕ
bytes_in [] = 0
bytes_in (pair ∷ pairs) = length pair.1 + bytes_in pairs

-- what is told once this pair was handed over: nothing, where there are more pairs or bytes than the room
abbrev pub told_after : Option (List Handed) → ℕ → ℕ → Handed → Option (List Handed)
told_after None room most pair = None
told_after (Some pairs) room most pair =
    if nat_le (length pairs + 1) most && nat_le (bytes_in pairs + length pair.1) room then Some (pairs ++ pair ∷ []) else None

-- the pair at a place, where it is told
abbrev pub pair_at : Option (List Handed) → ℕ → Option Handed
pair_at None place = None
pair_at (Some pairs) place = slice_get pairs place

-- what the receive at a place gives: that of the script, and nothing once it has ended
abbrev pub arrival_at : List (Option (List ℕ)) → ℕ → Option (List ℕ)
arrival_at [] place = None
arrival_at (arrival ∷ script) zero = arrival
arrival_at (arrival ∷ script) (suc place) = arrival_at script place

abbrev pub first_outcomes : List (Option (List ℕ)) → ℕ → List Outcome
first_outcomes script zero = []
first_outcomes script (suc count) = first_outcomes script count ++ Ok (arrival_at script count) ∷ []

-- A link in memory that never fails: what comes, how many receives there were, and what is told.
pub record QuietTraffic : Type 0 where
  pub script : List (Option (List ℕ))
  pub receives : ℕ
  pub over : HandedOver
  pub attached : Option Attachment

abbrev pub arrival_of : Option (Vec ℕ) → Option (List ℕ)
arrival_of None = None
arrival_of (Some bytes) = Some bytes.items

abbrev pub traffic_with : QuietTraffic → List Handed → Traffic
traffic_with q pairs = record {
  received = first_outcomes q.script q.receives;
  handed = pairs;
  sends = replicate (length pairs) false;
  attached = q.attached;
}

-- what it tells
abbrev pub told_by : QuietTraffic → Option (List Handed) → Option Traffic
told_by q None = None
told_by q (Some pairs) = Some (traffic_with q pairs)

abbrev pub traffic_of : QuietTraffic → Option Traffic
traffic_of q = told_by q q.over.handed

-- how many bytes the buffer of a receive has
abbrev pub largest_arrival : ℕ
largest_arrival = 1500

-- an arrival that fits the buffer of a receive
abbrev pub IsArrival : Option (Vec ℕ) → Type 0
IsArrival None = Unit {0}
IsArrival (Some bytes) = length bytes.items ≤ largest_arrival

-- the arrival stands at the front of the buffer
abbrev pub IsArrivalThere : List ℕ → Option (List ℕ) → Arrival → Type 0
IsArrivalThere buffer None (Bytes count) = ⊥
IsArrivalThere buffer None Nothing = Unit {0}
IsArrivalThere buffer (Some bytes) (Bytes count) = (count ≤ length buffer) × (take count buffer ≡ bytes)
IsArrivalThere buffer (Some bytes) Nothing = ⊥
