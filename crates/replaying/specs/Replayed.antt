-- What a bridge gives of the lines of a capture: the line of each emit at its moment, and a report for each line that breaks a rule.
use Rattle.std.specs.Prelude.{◌≡◌, ℕ, ◌+◌, List, [], ◌∷◌, ◌++◌, Option, Some, None, Result, Ok, Err}
use Rattle.std.specs.List.{flat_map}
use Rattle.gate_events.specs.declared.emit.Detail.TheVariants as detail
use Rattle.capture_text.specs.declared.line_rule.LineRule.{LineRule}
use Rattle.gate_events.specs.Event.{Seen}
use Rattle.capture_text.specs.LineRule.{rule_number}
use Rattle.capture_text.specs.Emitted.{line_of}
use Rattle.capture_text.specs.Reading.{read}
use Rattle.gate_events.specs.Emit.{Emit, Emitted}
use Rattle.history.specs.Emits.{at, broken}
use Rattle.history.specs.Entries.{Entry, History, moment_of}
use Rattle.history.specs.Gate as of_gateway
use Rattle.history.specs.Gate.{stepped_by}
use Rattle.history.specs.Settings.{Settings}
use Rattle.bridge.specs.Gate.{all_out, gate}
use Rattle.bridge.specs.BridgeSettings.{BridgeSettings}
use Rattle.bridge.specs.Running.{Running, entry_of, moment_in}

-- the lines of what was emitted
abbrev pub emitted_text : List Emitted → List ℕ
emitted_text emits = flat_map line_of emits

-- ---- a gateway that is started by the first event of a capture

-- what a line emits, and what had come then: nothing yet, or all since the start
pub record Replayed : Type 0 where
  pub emits : List Emitted
  pub after : Option Running

-- of a gateway of these settings, by what an entry gives: alone, or with parts beside it
module _ (c : Settings) (gives : ℕ → History → Entry → List Emit) where
  abbrev pub stepped_from_by : ℕ → History → List Emitted → Entry → Replayed
  stepped_from_by s h before e = let x = stepped_by c s (gives s) h e in
      record { emits = before ++ x.emits; after = Some (record { start = s; history = x.after }) }

  -- the first event starts the gateway at its moment
  abbrev pub with_event_by : Option Running → Entry → Replayed
  with_event_by None e = stepped_from_by (moment_of e) [] (of_gateway.opening c (moment_of e)) e
  with_event_by (Some g) e = stepped_from_by g.start g.history [] e

  -- a line that is refused is reported by its number, at the moment that was reached
  abbrev pub with_read_by : ℕ → Option Running → Result Seen LineRule → Replayed
  with_read_by number g (Ok seen) = with_event_by g (entry_of seen)
  with_read_by number g (Err rule) = record { emits = at (moment_in g) (broken (rule_number rule) (detail.Line number) ∷ []); after = g }

  -- an empty line gives nothing
  abbrev pub with_line_by : ℕ → Option Running → List ℕ → Replayed
  with_line_by number g [] = record { emits = []; after = g }
  with_line_by number g (x ∷ xs) = with_read_by number g (read (x ∷ xs))

  -- all that is emitted from a line of this number on
  abbrev pub replayed_by : ℕ → Option Running → List (List ℕ) → List Emitted
  replayed_by number g [] = []
  replayed_by number g (l ∷ ls) = let x = with_line_by number g l in x.emits ++ replayed_by (number + 1) x.after ls

module _ (p : BridgeSettings) where
  abbrev pub with_event : Option Running → Entry → Replayed
  with_event g e = with_event_by p.gateway (all_out p) g e

  abbrev pub with_read : ℕ → Option Running → Result Seen LineRule → Replayed
  with_read number g said = with_read_by p.gateway (all_out p) number g said

  abbrev pub with_line : ℕ → Option Running → List ℕ → Replayed
  with_line number g line = with_line_by p.gateway (all_out p) number g line

  abbrev pub replayed_from : ℕ → Option Running → List (List ℕ) → List Emitted
  replayed_from number g lines = replayed_by p.gateway (all_out p) number g lines

  -- the text of the lines of a capture, which are counted from 1
  abbrev pub replay_text : List (List ℕ) → List ℕ
  replay_text lines = emitted_text (replayed_from 1 None lines)

  abbrev pub IsReplay : List (List ℕ) → List ℕ → Type 0
  IsReplay lines text = text ≡ replay_text lines

  -- the same, where this was lived through before them
  abbrev pub IsReplayFrom : Option Running → List (List ℕ) → List ℕ → Type 0
  IsReplayFrom g lines text = text ≡ emitted_text (replayed_from 1 g lines)

-- ---- a capture of events alone

-- the events that its lines say, in order; an empty line says none
abbrev pub event_in : Result Seen LineRule → List Entry
event_in (Ok seen) = entry_of seen ∷ []
event_in (Err rule) = []

abbrev pub events_in : List (List ℕ) → List Entry
events_in [] = []
events_in ([] ∷ ls) = events_in ls
events_in ((x ∷ xs) ∷ ls) = event_in (read (x ∷ xs)) ++ events_in ls

-- no line is refused
abbrev pub AreRead : List (List ℕ) → Type 0
AreRead [] = Unit {0}
AreRead ([] ∷ ls) = AreRead ls
AreRead ((x ∷ xs) ∷ ls) = ((seen : Seen) × (read (x ∷ xs) ≡ Ok seen)) × AreRead ls

-- the gateway starts at the moment of the first event, and never where there is none
abbrev pub gate_of : BridgeSettings → List Entry → List Emitted
gate_of p [] = []
gate_of p (e ∷ es) = gate p (moment_of e) (e ∷ es)

-- its text is all that is emitted at these events, a line each
abbrev pub EventsAreReplayed : Type 0
EventsAreReplayed = (p : BridgeSettings) (lines : List (List ℕ)) → AreRead lines → replay_text p lines ≡ emitted_text (gate_of p (events_in lines))
