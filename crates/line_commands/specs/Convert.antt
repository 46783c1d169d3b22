-- What `convert` writes for a line.
use Rattle.std.specs.Prelude.{◌≡◌, ℕ, false, List, [], ◌∷◌, ◌++◌, Result, Ok, Err}
use Rattle.std.specs.List.{flat_map}
use Rattle.n2k_id.specs.Frame.{BusFrame}
use Rattle.n2k_id.specs.Identifier.{parts_of}
use Rattle.readings.specs.Rows.{row_of, about_of}
use Rattle.pgn_profile.specs.declared.kinds.Kind.{Kind}
use Rattle.pgn_profile.specs.declared.kinds.Kind.TheVariants as kinds
use Rattle.pgn_profile.specs.declared.profiled.Profiled.{Profiled}
use Rattle.pgn_profile.specs.declared.profiled.Profiled.TheVariants as says
use Rattle.pgn_profile.specs.Profiled.{kind_of, profiled}
use Rattle.sentence_profile.specs.Writing.{IsText}
use Rattle.capture_text.specs.declared.line_rule.LineRule.{LineRule}
use Rattle.gate_events.specs.declared.emit.Detail.TheVariants as detail
use Rattle.capture_text.specs.LineRule.{rule_number}
use Rattle.report_rules.specs.Rules.{not_converted, short_message}
use Rattle.gate_events.specs.Event.{Seen, frame, datagram, tick}
use Rattle.capture_text.specs.Writing.{report_text}

-- the report of a rule about a line
unfoldable pub refusal : ℕ → ℕ → List ℕ
refusal rule number = report_text (record { rule = rule; detail = detail.Line number }) ++ 10 ∷ []

-- What a payload gives: the sentences of its reading, spoken by the row's talker, or a report where it is too
-- short for its message or of no row.
abbrev pub IsPayloadText : ℕ → Profiled → List ℕ → Type 0
IsPayloadText number (says.Reading r) text = (lines : List (List ℕ)) × IsText r (about_of (row_of r)).talker false lines × (text ≡ flat_map (λ line. line) lines)
IsPayloadText number says.Outside text = text ≡ refusal not_converted number
IsPayloadText number says.Short text = text ≡ refusal short_message number

-- what a message of a kind gives: only one that comes in a single frame is converted
abbrev pub IsMessageText : ℕ → Kind → ℕ → List ℕ → List ℕ → Type 0
IsMessageText number kinds.Single pgn payload text = IsPayloadText number (profiled pgn payload) text
IsMessageText number kinds.Fast pgn payload text = text ≡ refusal not_converted number
IsMessageText number kinds.Outside pgn payload text = text ≡ refusal not_converted number

abbrev pub IsFrameText : ℕ → BusFrame → List ℕ → Type 0
IsFrameText number seen text = let pgn = (parts_of seen.id).pgn in IsMessageText number (kind_of pgn) pgn seen.held text

-- what a line gives by what it says: only a frame is converted, and a line that breaks a rule gives its report
abbrev pub IsSaidText : ℕ → Result Seen LineRule → List ℕ → Type 0
IsSaidText number (Ok (frame moment seen)) text = IsFrameText number seen text
IsSaidText number (Ok (datagram moment bytes)) text = text ≡ refusal not_converted number
IsSaidText number (Ok (tick moment)) text = text ≡ refusal not_converted number
IsSaidText number (Err rule) text = text ≡ refusal (rule_number rule) number
