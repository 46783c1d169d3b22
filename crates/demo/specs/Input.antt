-- The events of the made-up input: a frame of each device's claim (ISO 11783-5), and then headings and positions (NMEA 2000 PGNs 127250 and
-- 129029) and ticks, 100 microseconds apart.
use Rattle.std.specs.Prelude.{◌≡◌, ℕ, zero, suc, ◌+◌, ◌*◌, ◌%◌, ◌<◌, pos, Some, List, [], ◌∷◌, ◌++◌, slice_index, slice_index_or, if◌then◌else◌}
use Rattle.n2k_id.specs.Frame.{BusFrame}
use Rattle.n2k_id.specs.Identifier.{identifier_of}
use Rattle.n2k_id.specs.Name.{name_bytes}
use Rattle.readings.specs.declared.reading.Reading.TheVariants.{HeadingTrue}
use Rattle.pgn_profile.specs.Profiled.{payload_of}
use Rattle.history.specs.Entries.{Entry, frame, tick}
use Rattle.demo.specs.declared.input.Input.{Input}
use Rattle.demo.specs.declared.turns.Turn.{Turn}
use Rattle.demo.specs.declared.turns.Turn.TheVariants.{Claim, Heading, Position, Tick}
use Rattle.demo.specs.Turns.{is_position_from, positions_before, state_at, turn_at}

-- the frames of a position, a fast packet of 43 bytes
abbrev pub position_frames : List (List ℕ)
position_frames =
    (0x00 ∷ 0x2B ∷ 0x00 ∷ 0xDB ∷ 0x4C ∷ 0x00 ∷ 0x08 ∷ 0xAF ∷ [])
    ∷ (0x01 ∷ 0x2F ∷ 0x00 ∷ 0x00 ∷ 0x00 ∷ 0x00 ∷ 0x00 ∷ 0x00 ∷ [])
    ∷ (0x02 ∷ 0x00 ∷ 0x08 ∷ 0x00 ∷ 0x00 ∷ 0x00 ∷ 0x00 ∷ 0x00 ∷ [])
    ∷ (0x03 ∷ 0x00 ∷ 0x00 ∷ 0x02 ∷ 0xE0 ∷ 0xAE ∷ 0xBB ∷ 0x00 ∷ [])
    ∷ (0x04 ∷ 0x00 ∷ 0x00 ∷ 0x00 ∷ 0x00 ∷ 0x10 ∷ 0xFC ∷ 0x09 ∷ [])
    ∷ (0x05 ∷ 0x69 ∷ 0x00 ∷ 0xFF ∷ 0x7F ∷ 0xF4 ∷ 0x06 ∷ 0x00 ∷ [])
    ∷ (0x06 ∷ 0x00 ∷ 0x00 ∷ 0xFF ∷ 0xFF ∷ 0xFF ∷ 0xFF ∷ 0xFF ∷ [])
    ∷ []

-- these come in turn, and from the first again
unfoldable pub position_frame : ℕ → List ℕ
position_frame place = slice_index_or position_frames place []

-- to all
abbrev pub to_all : ℕ → ℕ → ℕ → List ℕ → BusFrame
to_all priority pgn source held =
    record { id = identifier_of (record { priority = priority; pgn = pgn; destination = 255; source = source }); held = held }

-- what comes of a turn, where each device sends this frame of its position next
abbrev pub entry_of : ℕ → (ℕ → ℕ) → Turn → Entry
entry_of m next (Claim address) = frame m (to_all 6 60928 address (name_bytes (0xC0788C0000000000 + address)))
entry_of m next (Heading source heading) = frame m (to_all 2 127250 source (payload_of (HeadingTrue (Some (pos heading)))))
entry_of m next (Position source) = frame m (to_all 3 129029 source (position_frame (next source)))
entry_of m next Tick = tick m

-- which frame a device sends next, of the seven
abbrev pub next_place : ℕ → ℕ → ℕ → ℕ
next_place seed k a = positions_before seed a k % 7

-- the event of this number, counted from 0
abbrev pub event_at : ℕ → ℕ → Entry
event_at seed k = entry_of (100 * k) (next_place seed k) (turn_at seed k)

-- so many events
abbrev pub events : ℕ → ℕ → List Entry
events seed zero = []
events seed (suc k) = events seed k ++ event_at seed k ∷ []

-- which frame it sends next once a turn was
abbrev pub moved_on : Turn → ℕ → ℕ → ℕ
moved_on turn a place = if is_position_from a turn then (place % 7 + 1) % 7 else place

-- ---- what gives them stands before the event of this number

pub record IsBefore (seed k : ℕ) (x : Input) : Type 0 where
  pub number : x.number ≡ k
  pub state : x.numbers ≡ state_at seed k
  pub places : (a : ℕ) → a < 251 → slice_index x.places a % 7 ≡ next_place seed k a

-- the next event is given
pub record Gives (seed k : ℕ) (e : Entry) (after : Input) : Type 0 where
  pub event : e ≡ event_at seed k
  pub goes_on : IsBefore seed (suc k) after

abbrev pub IsNext : Input → Entry → Input → Type 0
IsNext before e after = (seed k : ℕ) → IsBefore seed k before → Gives seed k e after
