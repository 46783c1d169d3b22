use Rattle.std.specs.Prelude.{◌≡◌, ℕ, ◌+◌, ◌-◌, ◌*◌, ◌/◌, ◌%◌, ◌^◌, ◌<◌, Bool, false, ◌||◌, ◌==◌, MatchBool, nat_lt, Option, Some, None, if◌then◌else◌}
use Rattle.n2k_id.specs.declared.identifier_parts.Parts.{Parts}

-- From its top a 29-bit identifier holds the priority (3 bits), the extended data page (1), the data
-- page (1), PF (8), PS (8) and the source (8); the four in the middle are its group.

-- PF below 240: PS is a destination and no part of the parameter group number (ISO 11783-3, PDU1)
unfoldable pub has_destination : ℕ → Bool
has_destination group = nat_lt (group / 2 ^ 8 % 2 ^ 8) 240

-- the parts of a priority, a group of 18 bits and a source
unfoldable pub parts_at : ℕ → ℕ → ℕ → Parts
parts_at priority group source =
    if has_destination group
    then record { priority = priority; pgn = group - group % 2 ^ 8; destination = group % 2 ^ 8; source = source }
    else record { priority = priority; pgn = group; destination = 255; source = source }

-- the parts of an identifier
unfoldable pub parts_of : ℕ → Parts
parts_of id = parts_at (id / 2 ^ 26) (id / 2 ^ 8 % 2 ^ 18) (id % 2 ^ 8)

-- parts that an identifier can have
pub record CanJoin (p : Parts) : Type 0 where
  pub priority : p.priority < 2 ^ 3
  pub pgn : p.pgn < 2 ^ 18
  pub destination : MatchBool (has_destination p.pgn) (p.pgn % 2 ^ 8 ≡ 0) (p.destination ≡ 255)

-- a group with the PS that these parts give it
unfoldable pub group_of : Parts → ℕ
group_of p = if has_destination p.pgn then p.pgn + p.destination else p.pgn

-- the identifier of these parts
unfoldable pub identifier_of : Parts → ℕ
identifier_of p = p.priority * 2 ^ 26 + group_of p * 2 ^ 8 + p.source

-- the identifier is laid out as these parts say
pub record IsLaidOut (id : ℕ) (p : Parts) : Type 0 where
  pub joinable : CanJoin p
  pub identifier : id ≡ identifier_of p

-- ---- from whom a frame is, and to whom, by the address of this device where it has one

-- the address is this device's
abbrev pub is_own : Option ℕ → ℕ → Bool
is_own None address = false
is_own (Some own) address = address == own

-- a frame to this destination is to all, or to this device
abbrev pub is_to : Option ℕ → ℕ → Bool
is_to own destination = (destination == 255) || is_own own destination
