-- A line of a capture, as a relation between what it says and all of its bytes: a time, an interface, and what follows
-- by the interface.
use Rattle.std.specs.Prelude.{◌≡◌, ◌≢◌, ℕ, ◌*◌, ◌^◌, ◌<◌, ◌≤◌, ◌⊎◌, ◌==◌, Bool, true, List, [], ◌∷◌, ◌++◌, length, codes, IsTrue, Ok}
use Rattle.std.specs.List.{list_all}
use Rattle.std.specs.Char.{is_ascii_digit, is_ascii_graphic, is_ascii_hexdigit}
use Rattle.std.specs.Int.{w32, from_be_bytes}
use Rattle.hex.specs.Hex.{decode_of}
use Rattle.unit_fraction.specs.Digits.{number}
use Rattle.n2k_id.specs.Frame.{BusFrame}
use Rattle.gate_events.specs.Event.{Seen, frame, datagram, tick}
use Rattle.sentence_text.specs.Names.{IsGroup}

-- the most bytes of a line, and of the datagram that a line can hold
abbrev pub longest_line : ℕ
longest_line = 4096

abbrev pub most_bytes : ℕ
most_bytes = 2048

-- seconds, a point and microseconds in parentheses; all their digits together write the moment
pub record IsTime (moment : ℕ) (text : List ℕ) : Type 0 where
  pub seconds : List ℕ
  pub micros : List ℕ
  pub spelled : text ≡ 40 ∷ (seconds ++ 46 ∷ (micros ++ 41 ∷ []))
  pub some : 1 ≤ length seconds
  pub few : length seconds ≤ 10
  pub six : length micros ≡ 6
  pub seconds_digits : IsTrue (list_all is_ascii_digit seconds)
  pub micros_digits : IsTrue (list_all is_ascii_digit micros)
  pub value : moment ≡ number (seconds ++ micros)

-- one to sixteen printable bytes, none of them a space
pub record IsInterface (name : List ℕ) : Type 0 where
  pub some : 1 ≤ length name
  pub few : length name ≤ 16
  pub bytes : IsTrue (list_all is_ascii_graphic name)

-- the line is a time, a space, an interface and what follows it, and isn't too long
pub record Begins (moment : ℕ) (name tail line : List ℕ) : Type 0 where
  pub time : List ℕ
  pub is_time : IsTime moment time
  pub is_interface : IsInterface name
  pub spelled : line ≡ time ++ 32 ∷ (name ++ tail)
  pub most : length line ≤ longest_line

-- the end of the line, or a space and any bytes
abbrev pub is_end : List ℕ → Bool
is_end [] = true
is_end (c ∷ cs) = c == 32

pub record IsTick (moment : ℕ) (line : List ℕ) : Type 0 where
  pub tail : List ℕ
  pub begins : Begins moment (codes "tick") tail line
  pub ends : IsTrue (is_end tail)

-- a group, `#` and the datagram, two digits of either case a byte
pub record IsDatagram (moment : ℕ) (bytes line : List ℕ) : Type 0 where
  pub group : List ℕ
  pub digits : List ℕ
  pub rest : List ℕ
  pub begins : Begins moment (codes "udp0") (32 ∷ (group ++ 35 ∷ (digits ++ rest))) line
  pub is_group : IsGroup group
  pub few : length digits ≤ 2 * most_bytes
  pub written : decode_of digits ≡ Ok bytes
  pub ends : IsTrue (is_end rest)

-- ---- the bus: every other interface

-- an identifier of hexadecimal digits, `#` and what follows it
pub record IsOnBus (moment : ℕ) (identifier behind line : List ℕ) : Type 0 where
  pub name : List ℕ
  pub begins : Begins moment name (32 ∷ (identifier ++ 35 ∷ behind)) line
  pub no_tick : name ≢ codes "tick"
  pub no_datagram : name ≢ codes "udp0"
  pub digits : IsTrue (list_all is_ascii_hexdigit identifier)

-- at most eight data bytes, two digits of either case each
pub record IsData (held behind : List ℕ) : Type 0 where
  pub digits : List ℕ
  pub rest : List ℕ
  pub spelled : behind ≡ digits ++ rest
  pub few : length digits ≤ 16
  pub written : decode_of digits ≡ Ok held
  pub ends : IsTrue (is_end rest)

-- eight hexadecimal digits, two for each of the four bytes of the number, the highest first
pub record IsNumber (number : ℕ) (digits : List ℕ) : Type 0 where
  pub eight : length digits ≡ 8
  pub bytes : List ℕ
  pub written : decode_of digits ≡ Ok bytes
  pub value : number ≡ from_be_bytes w32 bytes

-- a data frame with a 29-bit identifier
pub record IsFrame (moment : ℕ) (seen : BusFrame) (line : List ℕ) : Type 0 where
  pub identifier : List ℕ
  pub behind : List ℕ
  pub on_bus : IsOnBus moment identifier behind line
  pub number : IsNumber seen.id identifier
  pub fits : seen.id < 2 ^ 29
  pub is_data : IsData seen.held behind

-- a line is spelled as one that says this
abbrev pub IsLine : Seen → List ℕ → Type 0
IsLine (frame moment seen) line = IsFrame moment seen line
IsLine (datagram moment bytes) line = IsDatagram moment bytes line
IsLine (tick moment) line = IsTick moment line

-- ---- what else a bus carries

-- an 11-bit identifier has three digits
abbrev pub IsShort : List ℕ → Type 0
IsShort identifier = length identifier ≡ 3

-- eight digits that write more than 29 bits
abbrev pub IsWide : List ℕ → Type 0
IsWide identifier = (number : ℕ) × IsNumber number identifier × (2 ^ 29 ≤ number)

-- `R`, a remote frame, or a second `#`, a frame of CAN FD; what follows it isn't looked at
abbrev pub IsOtherKind : List ℕ → List ℕ → Type 0
IsOtherKind identifier behind = ((length identifier ≡ 3) ⊎ (length identifier ≡ 8)) × (kind : ℕ) × (rest : List ℕ) × (behind ≡ kind ∷ rest) × ((kind ≡ 82) ⊎ (kind ≡ 35))

-- no data frame with a 29-bit identifier: data of a frame whose identifier has another width, or another kind of frame
abbrev pub IsOtherFrame : List ℕ → List ℕ → Type 0
IsOtherFrame identifier behind = ((held : List ℕ) × IsData held behind × (IsShort identifier ⊎ IsWide identifier)) ⊎ IsOtherKind identifier behind

pub record IsNotExtended (line : List ℕ) : Type 0 where
  pub moment : ℕ
  pub identifier : List ℕ
  pub behind : List ℕ
  pub on_bus : IsOnBus moment identifier behind line
  pub other : IsOtherFrame identifier behind

-- not too long, and neither spelled as a line that says something nor as such a frame
pub record IsNoLine (line : List ℕ) : Type 0 where
  pub most : length line ≤ longest_line
  pub says_nothing : (seen : Seen) → IsLine seen line → ⊥
  pub no_frame : IsNotExtended line → ⊥
