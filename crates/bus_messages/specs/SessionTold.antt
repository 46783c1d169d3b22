-- What is told of the answer to a frame of the transport protocol (ISO 11783-3).
use Rattle.std.specs.Prelude.{ℕ, Bool, true, List, ◌++◌, Option, Some, None}
use Rattle.gate_events.specs.declared.emit.Report.{Report}
use Rattle.n2k_id.specs.declared.identifier_parts.Parts.{Parts}
use Rattle.iso_transport.specs.declared.answers.IsoFed.{IsoFed}
use Rattle.iso_transport.specs.declared.answers.IsoOutcome.{IsoOutcome}
use Rattle.iso_transport.specs.declared.answers.IsoOutcome.TheVariants.{Ignored, Held, Complete, Repeat, Refused}
use Rattle.iso_transport.specs.declared.answers.IsoRefusal.{IsoRefusal}
use Rattle.iso_transport.specs.Audience.{is_data, key_of}
use Rattle.iso_transport.specs.RunVerdicts.{Message}
use Rattle.history.specs.BusRules.{is_early}
use Rattle.gate_model.specs.Sessions.{SessionAnswer, restarted_reports, refused_reports}

-- what the assembler answers, as plain values
abbrev pub refusal_in : IsoOutcome → Option IsoRefusal
refusal_in Ignored = None
refusal_in Held = None
refusal_in (Complete pgn view) = None
refusal_in Repeat = None
refusal_in (Refused reason) = Some reason

abbrev pub message_in : IsoOutcome → Option Message
message_in Ignored = None
message_in Held = None
message_in (Complete pgn view) = Some (record { pgn = pgn; bytes = view.bytes.now })
message_in Repeat = None
message_in (Refused reason) = None

abbrev pub answer_in : IsoFed → SessionAnswer
answer_in fed = record { restarted = fed.restarted; refusal = refusal_in fed.outcome; reply = fed.reply; message = message_in fed.outcome }

-- the rules that a frame breaks, before what its message says is known
abbrev pub heard_reports : Parts → SessionAnswer → List Report
heard_reports parts answer = restarted_reports parts.source answer.restarted ++ refused_reports parts answer.refusal

-- an RTS comes to the gateway before it may answer it
abbrev pub comes_early : Bool → Parts → List ℕ → Bool
comes_early ready parts bytes =
    is_early (key_of parts).addressed ready (record { moment = 0; packet = is_data parts; bytes = bytes; admitted = true })
