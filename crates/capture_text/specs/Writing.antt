-- The line that is written of an emit, and that of an event.
use Rattle.std.specs.Prelude.{◌≡◌, ℕ, ◌≤◌, Bool, false, true, List, [], ◌∷◌, ◌++◌, length, codes, Option, Some, None}
use Rattle.std.specs.Fmt.{decimal}
use Rattle.std.specs.Int.{w32, to_be_bytes}
use Rattle.hex.specs.Hex.{encode_upper}
use Rattle.unit_fraction.specs.Text.{decimal_text}
use Rattle.n2k_id.specs.Frame.{BusFrame, bus_frame}
use Rattle.readings.specs.Rows.{about_of}
use Rattle.gate_events.specs.declared.emit.Detail.{Detail}
use Rattle.gate_events.specs.declared.emit.Detail.TheVariants as detail
use Rattle.gate_events.specs.declared.emit.Report.{Report}
use Rattle.gate_events.specs.declared.emit.Emit.{Emit}
use Rattle.gate_events.specs.declared.emit.Emit.TheVariants as emit
use Rattle.gate_events.specs.declared.event.Event.{Event}
use Rattle.gate_events.specs.Event.{IsValid, Seen, frame, datagram, tick, view}
use Rattle.capture_text.specs.Lines.{is_one_line}
use Rattle.capture_text.specs.Reading.{second_word}

-- the seconds and six digits of microseconds in parentheses, and a space
abbrev pub time_text : ℕ → List ℕ
time_text moment = 40 ∷ (decimal_text false moment 6 ++ codes ") ")

-- a key, `=` and a number, behind a space
abbrev pub part : List ℕ → ℕ → List ℕ
part key number = 32 ∷ (key ++ 61 ∷ decimal number)

abbrev pub said_text : Bool → List ℕ
said_text true = codes " said=yes"
said_text false = codes " said=no"

abbrev pub detail_text : Detail → List ℕ
detail_text detail.Nothing = []
detail_text (detail.Source address pgn) = part (codes "src") address ++ part (codes "pgn") pgn
detail_text (detail.Address address) = part (codes "addr") address
detail_text (detail.Own None) = codes " own=none"
detail_text (detail.Own (Some address)) = part (codes "own") address
detail_text (detail.Row row address) = codes " row=" ++ (about_of row).name ++ part (codes "src") address
detail_text (detail.Watched row said) = codes " row=" ++ (about_of row).name ++ said_text said
detail_text (detail.At at) = part (codes "at") at
detail_text (detail.AtField at field) = part (codes "at") at ++ part (codes "field") field
detail_text (detail.GroupKey sfi code) = codes " sfi=" ++ sfi ++ part (codes "group") code
detail_text (detail.Line line) = part (codes "line") line
detail_text detail.Bus = codes " link=bus"
detail_text detail.Net = codes " link=net"

abbrev pub report_text : Report → List ℕ
report_text report = codes "rule " ++ decimal report.rule ++ detail_text report.detail

abbrev pub frame_text : BusFrame → List ℕ
frame_text f = codes "can0 " ++ encode_upper (to_be_bytes w32 f.id) ++ 35 ∷ encode_upper f.held

abbrev pub datagram_text : List ℕ → List ℕ → List ℕ
datagram_text group bytes = codes "udp0 " ++ group ++ 35 ∷ encode_upper bytes

abbrev pub emit_text : Emit → List ℕ
emit_text (emit.Can f) = frame_text (bus_frame f)
emit_text (emit.Net group bytes) = datagram_text group bytes.now
emit_text (emit.Report report) = report_text report

abbrev pub line_text : Emit → ℕ → List ℕ
line_text emitted moment = time_text moment ++ emit_text emitted

-- a report is one line whose second word is `rule`
pub record IsReportLine (line : List ℕ) : Type 0 where
  pub one : is_one_line line ≡ true
  pub word : second_word line ≡ codes "rule"

abbrev pub IsToldIn : Emit → List ℕ → Type 0
IsToldIn (emit.Can f) line = Unit {0}
IsToldIn (emit.Net group bytes) line = Unit {0}
IsToldIn (emit.Report report) line = IsReportLine line

-- what a line says that is written of a frame or of a datagram
abbrev pub line_meaning : Emit → ℕ → Option Seen
line_meaning (emit.Can f) moment = Some (frame moment (bus_frame f))
line_meaning (emit.Net group bytes) moment = Some (datagram moment bytes.now)
line_meaning (emit.Report report) moment = None

-- ---- an event

-- a datagram stands under a group
abbrev pub event_text : List ℕ → Seen → List ℕ
event_text group (frame moment f) = time_text moment ++ frame_text f
event_text group (datagram moment bytes) = time_text moment ++ datagram_text group bytes
event_text group (tick moment) = time_text moment ++ codes "tick"

-- behind a tick that starts a gateway; capture text takes any text there
abbrev pub start_mark : List ℕ
start_mark = codes " start"

-- the most bytes of a datagram whose line is read back
abbrev pub most_recorded : ℕ
most_recorded = 1500

-- a datagram isn't longer
abbrev pub IsShort : Seen → Type 0
IsShort (frame moment f) = Unit {0}
IsShort (datagram moment bytes) = length bytes ≤ most_recorded
IsShort (tick moment) = Unit {0}

-- it is valid, and short
abbrev pub CanRecord : Event → Type 0
CanRecord e = IsValid e × IsShort (view e)
