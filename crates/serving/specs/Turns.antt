-- What a gateway between two links makes turn by turn, over the readings of the clock and over what each receive gave.
use Rattle.std.specs.Prelude.{ℕ, ◌+◌, Bool, true, false, ◌||◌, ◌&&◌, nat_lt, max, drop, List, [], ◌∷◌, ◌++◌, length, map, codes, Option, Some, None, Result, Ok, Err, if◌then◌else◌}
use Rattle.std.specs.Io.BufRead.{ends_with_byte, strip_last}
use Rattle.report_rules.specs.Rules as rules
use Rattle.gate_events.specs.declared.emit.Detail.TheVariants as detail
use Rattle.gate_events.specs.declared.emit.Report.{Report}
use Rattle.capture_text.specs.declared.line_rule.LineRule.{LineRule}
use Rattle.gate_events.specs.Event as capture
use Rattle.gate_events.specs.Event.{Seen}
use Rattle.capture_text.specs.LineRule.{rule_number}
use Rattle.capture_text.specs.Reading.{read}
use Rattle.capture_text.specs.Writing.{event_text, start_mark}
use Rattle.gate_outside.specs.Link.{Outcome}
use Rattle.gate_events.specs.Emit.{Emit, Emitted, report}
use Rattle.history.specs.Emits.{at, report_of}
use Rattle.bridge.specs.Running.{Running, entry_of, moment_in}
use Rattle.history.specs.Entries.{Entry, History}
use Rattle.history.specs.Gate as of_gateway
use Rattle.history.specs.Gate.{stepped_by}
use Rattle.history.specs.Settings.{Settings}
use Rattle.bridge.specs.Gate.{all_out}
use Rattle.bridge.specs.BridgeSettings.{BridgeSettings}

-- ---- what a receive gives a turn

-- an event or none, or what is reported in its place
abbrev pub Arrived : Type 0
Arrived = Result (Option Seen) Report

-- the text of an arrival: an LF at its end is no part of it, nor is a CR before that
abbrev pub text_of : List ℕ → List ℕ
text_of bytes = if ends_with_byte 10 bytes then strip_last 13 (strip_last 10 bytes) else bytes

-- a text that is refused is reported with the number of the turn
abbrev pub refused : ℕ → ℕ → Report
refused rule number = report_of rule (detail.Line number)

-- A capture line of a frame is that frame, at the moment of the turn and not at its own. No other text is one.
abbrev pub line_says : ℕ → ℕ → Result Seen LineRule → Arrived
line_says m number (Ok (capture.frame own f)) = Ok (Some (capture.frame m f))
line_says m number (Ok (capture.datagram own bytes)) = Err (refused rules.capture_form number)
line_says m number (Ok (capture.tick own)) = Err (refused rules.capture_form number)
line_says m number (Err rule) = Err (refused (rule_number rule) number)

abbrev pub from_bus : ℕ → ℕ → Outcome → Arrived
from_bus m number (Ok (Some bytes)) = line_says m number (read (text_of bytes))
from_bus m number (Ok None) = Ok None
from_bus m number (Err e) = Err (report_of rules.receive_failed detail.Bus)

abbrev pub from_net : ℕ → Outcome → Arrived
from_net m (Ok (Some bytes)) = Ok (Some (capture.datagram m bytes))
from_net m (Ok None) = Ok None
from_net m (Err e) = Err (report_of rules.receive_failed detail.Net)

abbrev pub is_event : Arrived → Bool
is_event (Ok (Some e)) = true
is_event (Ok None) = false
is_event (Err r) = false

-- time passes, where neither link gave an event
abbrev pub tick_behind : ℕ → Bool → Arrived
tick_behind m heard = if heard then Ok None else Ok (Some (capture.tick m))

-- What comes in a turn of this moment, in its order. The turn takes the first outcome of each link; it has come no further than these are
-- there.
abbrev pub all_came : ℕ → Arrived → Arrived → List Arrived
all_came m bus net = bus ∷ net ∷ tick_behind m (is_event bus || is_event net) ∷ []

abbrev pub came_in : ℕ → ℕ → List Outcome → List Outcome → List Arrived
came_in m number [] net = []
came_in m number (b ∷ bus) [] = from_bus m number b ∷ []
came_in m number (b ∷ bus) (n ∷ net) = all_came m (from_bus m number b) (from_net m n)

-- ---- what is made of it

-- what is to go out
pub data Item : Type 0 where
  -- the gateway emitted it: at the start, at an event, or at the command that an event completes
  made : Emitted → Item
  -- the report of what came and was no event
  told : Emitted → Item
  -- a line of what came, as a capture has it, without its line end
  recorded : List ℕ → Item

-- in its order, and what the gateway has lived through then
pub record Turned : Type 0 where
  pub due : List Item
  pub after : Running

abbrev pub all_made : List Emitted → List Item
all_made emits = map made emits

abbrev pub all_told : List Emitted → List Item
all_told emits = map told emits

-- ---- what is recorded

-- the group of a datagram that came
abbrev pub received : List ℕ
received = codes "RECV"

-- the lines of the start and of an event
abbrev pub start_line : ℕ → List ℕ
start_line m = event_text received (capture.tick m) ++ start_mark

abbrev pub event_line : Seen → List ℕ
event_line seen = event_text received seen

-- whether an event is: each that came, and time that passes only where something is emitted then
abbrev pub is_recorded : {X : Type 0} → Seen → List X → Bool
is_recorded (capture.frame m f) emits = true
is_recorded (capture.datagram m bytes) emits = true
is_recorded (capture.tick m) emits = nat_lt 0 (length emits)

abbrev pub recorded_where : Bool → List ℕ → List Item
recorded_where false line = []
recorded_where true line = recorded line ∷ []

-- the moment of a turn: the clock's reading, and never one before what was reached
abbrev pub moment_at : Option Running → ℕ → ℕ
moment_at g reading = max reading (moment_in g)

-- of a gateway of these settings, by what an entry gives, and by whether what comes is recorded
module _ (c : Settings) (gives : ℕ → History → Entry → List Emit) (records : Bool) where
  -- the first turn starts the gateway
  abbrev pub with_start_by : ℕ → Option Running → Turned
  with_start_by m None =
      record { due = recorded_where records (start_line m) ++ all_made (of_gateway.opening c m); after = record { start = m; history = [] } }
  with_start_by m (Some g) = record { due = []; after = g }

  -- an event gives all that is emitted at it, and then at the command that it completes
  abbrev pub emitted_at_by : Seen → Running → Turned
  emitted_at_by e g = let x = stepped_by c g.start (gives g.start) g.history (entry_of e) in
      record { due = all_made x.emits; after = record { start = g.start; history = x.after } }

  -- and before that its line, where what comes is recorded
  abbrev pub with_event_by : Seen → Running → Turned
  with_event_by e g = let x = emitted_at_by e g in
      record { due = recorded_where (records && is_recorded e x.due) (event_line e) ++ x.due; after = x.after }

  abbrev pub with_came_by : ℕ → Arrived → Running → Turned
  with_came_by m (Ok (Some e)) g = with_event_by e g
  with_came_by m (Ok None) g = record { due = []; after = g }
  with_came_by m (Err r) g = record { due = all_told (at m (report r ∷ [])); after = g }

  abbrev pub with_all_by : ℕ → List Arrived → Running → Turned
  with_all_by m [] g = record { due = []; after = g }
  with_all_by m (came ∷ rest) g = let x = with_came_by m came g in let y = with_all_by m rest x.after in record { due = x.due ++ y.due; after = y.after }

  abbrev pub in_turn_by : ℕ → List Arrived → Option Running → Turned
  in_turn_by m cames g = let x = with_start_by m g in let y = with_all_by m cames x.after in record { due = x.due ++ y.due; after = y.after }

  -- the turn of this number
  abbrev pub turn_by : ℕ → ℕ → List Outcome → List Outcome → Option Running → Turned
  turn_by number reading bus net g = let m = moment_at g reading in in_turn_by m (came_in m number bus net) g

  -- The turns of these readings from this number on: each takes one outcome of each link.
  abbrev pub due_by : ℕ → Option Running → List ℕ → List Outcome → List Outcome → List Item
  due_by number g [] bus net = []
  due_by number g (reading ∷ readings) bus net =
      let x = turn_by number reading bus net g in x.due ++ due_by (number + 1) (Some x.after) readings (drop 1 bus) (drop 1 net)

module _ (p : BridgeSettings) where
  abbrev pub with_start : ℕ → Option Running → Turned
  with_start m g = with_start_by p.gateway (all_out p) p.records m g

  abbrev pub emitted_at : Seen → Running → Turned
  emitted_at e g = emitted_at_by p.gateway (all_out p) p.records e g

  abbrev pub with_event : Seen → Running → Turned
  with_event e g = with_event_by p.gateway (all_out p) p.records e g

  abbrev pub with_came : ℕ → Arrived → Running → Turned
  with_came m came g = with_came_by p.gateway (all_out p) p.records m came g

  abbrev pub with_all : ℕ → List Arrived → Running → Turned
  with_all m cames g = with_all_by p.gateway (all_out p) p.records m cames g

  abbrev pub in_turn : ℕ → List Arrived → Option Running → Turned
  in_turn m cames g = in_turn_by p.gateway (all_out p) p.records m cames g

  abbrev pub turn : ℕ → ℕ → List Outcome → List Outcome → Option Running → Turned
  turn number reading bus net g = turn_by p.gateway (all_out p) p.records number reading bus net g

  abbrev pub due_from : ℕ → Option Running → List ℕ → List Outcome → List Outcome → List Item
  due_from number g readings bus net = due_by p.gateway (all_out p) p.records number g readings bus net

  -- all that is to go out, from the start on; turns are counted from 1
  abbrev pub due_of : List ℕ → List Outcome → List Outcome → List Item
  due_of readings bus net = due_from 1 None readings bus net
