-- The bytes of what is said.
use Rattle.std.specs.Prelude.{ℕ, ◌-◌, ◌/◌, ◌%◌, List, [], ◌∷◌, ◌++◌, length, replicate}
use Rattle.std.specs.List.{flat_map}
use Rattle.bus_identity.specs.declared.product.Product.{Product}
use Rattle.bus_identity.specs.PgnLists.{sent, received}

-- ---- product information

-- the version of the NMEA 2000 database, in thousandths
abbrev pub database_version : ℕ
database_version = 2100

-- a number of two bytes, low byte first
abbrev pub two_bytes : ℕ → List ℕ
two_bytes n = n % 256 ∷ n / 256 ∷ []

-- a text in a field of 32 bytes, the rest of which is filled with 255
abbrev pub text_field : List ℕ → List ℕ
text_field text = text ++ replicate (32 - length text) 255

-- the level of certification
abbrev pub certification : ℕ
certification = 0

abbrev pub information_of : Product → List ℕ
information_of p =
    two_bytes database_version ++ two_bytes p.code ++ text_field p.model.items ++ text_field p.software.items ++ text_field p.version.items
    ++ text_field p.serial.items ++ (certification ∷ p.load ∷ [])

-- ---- lists of parameter groups

-- a parameter group, low byte first
abbrev pub pgn_bytes : ℕ → List ℕ
pgn_bytes pgn = pgn % 256 ∷ pgn / 256 % 256 ∷ pgn / 65536 ∷ []

abbrev pub list_of : ℕ → List ℕ → List ℕ
list_of function pgns = function ∷ flat_map pgn_bytes pgns

abbrev pub sent_list : List ℕ
sent_list = list_of 0 sent

abbrev pub received_list : List ℕ
received_list = list_of 1 received

-- ---- the acknowledgement

-- no, to all functions of the group; then the three bytes that were asked for
abbrev pub refusal_of : List ℕ → List ℕ
refusal_of asked = 1 ∷ 255 ∷ 255 ∷ 255 ∷ 255 ∷ asked
