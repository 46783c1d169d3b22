-- What a line of a capture reads as: what it says, or the rule that it breaks.
use Rattle.std.specs.Prelude.{◌≡◌, ℕ, ◌+◌, ◌*◌, ◌^◌, ◌≤◌, ◌==◌, Bool, true, false, ◌&&◌, ◌||◌, not, nat_eq, nat_lt, nat_le, List, length, take, drop, codes, slice_index, Option, Some, None, is_some, option_map, Result, Ok, Err, if◌then◌else◌}
use Rattle.std.specs.List.{prefix_len, list_all}
use Rattle.std.specs.Cmp.Lexicographic.{pointwise}
use Rattle.std.specs.Char.{is_ascii_digit, is_ascii_graphic, is_ascii_hexdigit}
use Rattle.std.specs.Result.{result_ok}
use Rattle.std.specs.Int.{w32, from_be_bytes}
use Rattle.hex.specs.Hex.{decode_of}
use Rattle.unit_fraction.specs.Digits.{number, number_after}
use Rattle.n2k_id.specs.declared.frame.Frame.{Frame}
use Rattle.n2k_id.specs.Frame.{BusFrame, bus_frame}
use Rattle.sentence_text.specs.Byte.{is_address_byte}
use Rattle.gate_events.specs.declared.event.Event.{Event}
use Rattle.capture_text.specs.declared.line_rule.LineRule.{LineRule}
use Rattle.capture_text.specs.declared.line_rule.LineRule.TheVariants.{Form, NotExtended, Long}
use Rattle.gate_events.specs.Event.{Seen, frame, datagram, tick, view}
use Rattle.capture_text.specs.Capture.{is_end, longest_line, most_bytes}

-- a moment, and what follows the space behind its time
pub record Timed : Type 0 where
  pub moment : ℕ
  pub rest : List ℕ

-- one to ten digits of seconds, and the point behind them
unfoldable pub seconds_at : List ℕ → Option Timed
seconds_at text = let n = prefix_len is_ascii_digit (take 10 text) in
    if nat_le 1 n && slice_index text n == 46 then Some (record { moment = number (take n text); rest = drop (n + 1) text }) else None

-- six digits of microseconds, `)` and a space
unfoldable pub micros_at : ℕ → List ℕ → Option Timed
micros_at seconds text = if prefix_len is_ascii_digit (take 6 text) == 6 && slice_index text 6 == 41 && slice_index text 7 == 32
    then Some (record { moment = number_after seconds (take 6 text); rest = drop 8 text })
    else None

abbrev pub micros_behind : Option Timed → Option Timed
micros_behind None = None
micros_behind (Some t) = micros_at t.moment t.rest

unfoldable pub time_at : List ℕ → Option Timed
time_at line = if slice_index line 0 == 40 then micros_behind (seconds_at (drop 1 line)) else None

-- a time of twenty bytes comes first, with the space behind it: ten digits of seconds, and six of microseconds
abbrev pub HasUsualTime : List ℕ → Type 0
HasUsualTime line = (20 ≤ length line)
    × ((slice_index line 0 ≡ 40) × (slice_index line 11 ≡ 46) × (slice_index line 18 ≡ 41) × (slice_index line 19 ≡ 32))
    × ((list_all is_ascii_digit (take 10 (drop 1 line)) ≡ true) × (list_all is_ascii_digit (take 6 (drop 12 line)) ≡ true))

-- ---- the three kinds of lines, behind the interface

abbrev pub is_group : List ℕ → Bool
is_group text = length text == 4 && list_all is_address_byte text

-- digits stand before the first space, or before the end
abbrev pub is_no_space : ℕ → Bool
is_no_space c = not (c == 32)

abbrev pub up_to_space : List ℕ → List ℕ
up_to_space text = take (prefix_len is_no_space text) text

-- what stands behind the first space, up to the next one or the end
abbrev pub second_word : List ℕ → List ℕ
second_word line = up_to_space (drop 1 (drop (prefix_len is_no_space line) line))

-- at most so many bytes, in two digits each
abbrev pub bytes_of : ℕ → List ℕ → Option (List ℕ)
bytes_of most digits = if nat_le (length digits) (2 * most) then result_ok (decode_of digits) else None

-- those that are written up to the end or a space
unfoldable pub bytes_before_end : ℕ → List ℕ → Option (List ℕ)
bytes_before_end most text = bytes_of most (up_to_space text)

abbrev pub data_at : List ℕ → Option (List ℕ)
data_at behind = bytes_before_end 8 behind

unfoldable pub bytes_at : List ℕ → Option (List ℕ)
bytes_at tail = if slice_index tail 0 == 32 && is_group (take 4 (drop 1 tail)) && slice_index tail 5 == 35 then bytes_before_end most_bytes (drop 6 tail) else None

unfoldable pub number_of : List ℕ → Option ℕ
number_of digits = option_map (from_be_bytes w32) (result_ok (decode_of digits))

abbrev pub is_other_kind : List ℕ → Bool
is_other_kind behind = slice_index behind 0 == 82 || slice_index behind 0 == 35

-- behind an identifier of three digits
abbrev pub short_frame : Bool → List ℕ → Result BusFrame LineRule
short_frame is_identifier behind = if is_identifier && (is_other_kind behind || is_some (data_at behind)) then Err NotExtended else Err Form

abbrev pub frame_with : ℕ → Option (List ℕ) → Result BusFrame LineRule
frame_with id None = Err Form
frame_with id (Some held) = if nat_lt id (2 ^ 29) then Ok (record { id = id; held = held }) else Err NotExtended

-- behind an identifier of eight digits
abbrev pub wide_frame : Option ℕ → List ℕ → Result BusFrame LineRule
wide_frame None behind = Err Form
wide_frame (Some id) behind = if is_other_kind behind then Err NotExtended else frame_with id (data_at behind)

unfoldable pub frame_at : List ℕ → Result BusFrame LineRule
frame_at tail = let digits = drop 1 tail in
    if not (slice_index tail 0 == 32) then Err Form
    else if slice_index digits 3 == 35 then short_frame (list_all is_ascii_hexdigit (take 3 digits)) (drop 4 digits)
    else if slice_index digits 8 == 35 then wide_frame (number_of (take 8 digits)) (drop 9 digits)
    else Err Form

-- ---- the line

abbrev pub seen_tick : ℕ → Bool → Result Seen LineRule
seen_tick moment ends = if ends then Ok (tick moment) else Err Form

abbrev pub seen_datagram : ℕ → Option (List ℕ) → Result Seen LineRule
seen_datagram moment None = Err Form
seen_datagram moment (Some bytes) = Ok (datagram moment bytes)

abbrev pub seen_frame : ℕ → Result BusFrame LineRule → Result Seen LineRule
seen_frame moment (Ok seen) = Ok (frame moment seen)
seen_frame moment (Err rule) = Err rule

abbrev pub is_name : List ℕ → List ℕ → Bool
is_name name text = pointwise nat_eq text name

-- a bus with a name of four bytes comes first, and a space behind it
abbrev pub HasBusOfFour : List ℕ → Type 0
HasBusOfFour rest = (prefix_len is_ascii_graphic rest ≡ 4) × (slice_index rest 4 ≡ 32) × (is_name (codes "tick") (take 4 rest) ≡ false) × (is_name (codes "udp0") (take 4 rest) ≡ false)

-- by the interface
unfoldable pub seen_behind : ℕ → List ℕ → List ℕ → Result Seen LineRule
seen_behind moment name tail = if is_name (codes "tick") name then seen_tick moment (is_end tail)
    else if is_name (codes "udp0") name then seen_datagram moment (bytes_at tail)
    else seen_frame moment (frame_at tail)

-- an interface, and what follows it
pub record Named : Type 0 where
  pub name : List ℕ
  pub tail : List ℕ

abbrev pub interface_at : List ℕ → Option Named
interface_at rest = let n = prefix_len is_ascii_graphic rest in
    if nat_le 1 n && nat_le n 16 then Some (record { name = take n rest; tail = drop n rest }) else None

abbrev pub seen_named : ℕ → Option Named → Result Seen LineRule
seen_named moment None = Err Form
seen_named moment (Some i) = seen_behind moment i.name i.tail

-- behind the time
abbrev pub seen_at : Option Timed → Result Seen LineRule
seen_at None = Err Form
seen_at (Some t) = seen_named t.moment (interface_at t.rest)

unfoldable pub read : List ℕ → Result Seen LineRule
read line = if nat_lt longest_line (length line) then Err Long else seen_at (time_at line)

-- ---- what the calls answer, in these terms

abbrev pub seen : Result Event LineRule → Result Seen LineRule
seen (Ok e) = Ok (view e)
seen (Err rule) = Err rule

-- so many bytes of the room were written, or there are none
abbrev pub IsPut : Option ℕ → List ℕ → Option (List ℕ) → Type 0
IsPut None room bytes = bytes ≡ None
IsPut (Some count) room bytes = (count ≤ length room) × (bytes ≡ Some (take count room))

abbrev pub bus_frame_in : Result Frame LineRule → Result BusFrame LineRule
bus_frame_in (Ok f) = Ok (bus_frame f)
bus_frame_in (Err rule) = Err rule
