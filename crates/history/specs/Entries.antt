-- What the gateway has lived through: a list of entries, of which the newest is the first.
use Rattle.std.specs.Prelude.{◌≡◌, ℕ, ◌^◌, ◌<◌, ◌≤◌, Bool, nat_le, List, [], ◌∷◌, length}
use Rattle.n2k_id.specs.Frame.{BusFrame}

-- an event that was accepted, or a command; each with its moment in microseconds
pub data Entry : Type 0 where
  -- a frame came from the bus
  frame : ℕ → BusFrame → Entry
  -- a datagram came from the network
  datagram : ℕ → List ℕ → Entry
  -- time passed
  tick : ℕ → Entry
  -- a message was complete by which the device at an address (the second number) tells the gateway to go to another (the third)
  command : ℕ → ℕ → ℕ → Entry

abbrev pub History : Type 0
History = List Entry

abbrev pub moment_of : Entry → ℕ
moment_of (frame m f) = m
moment_of (datagram m bytes) = m
moment_of (tick m) = m
moment_of (command m source address) = m

-- the moment of the last entry
abbrev pub now : History → ℕ
now [] = 0
now (e ∷ h) = moment_of e

-- an event is accepted where it isn't earlier than the last entry
abbrev pub is_accepted : History → Entry → Bool
is_accepted h e = nat_le (now h) (moment_of e)

-- what the outside can offer: frames of 29-bit identifiers with at most 8 bytes; a command comes from an address
abbrev pub IsOffered : Entry → Type 0
IsOffered (frame m f) = (f.id < 2 ^ 29) × (length f.held ≤ 8)
IsOffered (datagram m bytes) = Unit {0}
IsOffered (tick m) = Unit {0}
IsOffered (command m source address) = source < 256

-- an event is no earlier than what was before; a command is handled at the moment of the event that completed it
abbrev pub IsTimely : History → Entry → Type 0
IsTimely h (frame m f) = now h ≤ m
IsTimely h (datagram m bytes) = now h ≤ m
IsTimely h (tick m) = now h ≤ m
IsTimely h (command m source address) = m ≡ now h

-- each entry could follow those before it
abbrev pub IsHistory : History → Type 0
IsHistory [] = Unit {0}
IsHistory (e ∷ h) = IsOffered e × IsTimely h e × IsHistory h
