-- The parameter groups by which devices manage the network, by their numbers.
use Rattle.std.specs.Prelude.{ℕ, ◌+◌, ◌*◌, List, slice_index}

-- a device claims an address, or says that it can claim none (ISO 11783-5)
abbrev pub address_claimed : ℕ
address_claimed = 60928

-- a device asks for a parameter group (ISO 11783-3)
abbrev pub request : ℕ
request = 59904

-- which one it asks for: the first three bytes of the request, low byte first
abbrev pub asked_of : List ℕ → ℕ
asked_of held = slice_index held 0 + 256 * slice_index held 1 + 65536 * slice_index held 2

-- a device answers that it doesn't have what was asked for (ISO 11783-3)
abbrev pub acknowledgement : ℕ
acknowledgement = 59392

-- the transport protocol: management of a connection, and transfer of data (ISO 11783-3)
abbrev pub connection_management : ℕ
connection_management = 60416

abbrev pub data_transfer : ℕ
data_transfer = 60160

-- a device tells another to go to an address (ISO 11783-5)
abbrev pub commanded_address : ℕ
commanded_address = 65240
