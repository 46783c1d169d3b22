-- What the table of rules says of a frame of a fast packet and of one of the transport protocol, in the words of the assemblers.
use Rattle.std.specs.Prelude.{◌≡◌, ℕ, true, false, ◌&&◌, List, [], ◌∷◌, ◌++◌, Option, Some, None, is_some}
use Rattle.report_rules.specs.Rules as rules
use Rattle.fast_packet.specs.declared.answers.FastRefusal.{FastRefusal}
use Rattle.fast_packet.specs.declared.answers.FastRefusal.TheVariants as fast_refusal
use Rattle.fast_packet.specs.FastRuns as fast
use Rattle.fast_packet.specs.FastRuns.{FastPiece}
use Rattle.fast_packet.specs.Keys.{refused}
use Rattle.iso_transport.specs.declared.answers.IsoRefusal.{IsoRefusal}
use Rattle.iso_transport.specs.declared.answers.IsoRefusal.TheVariants as iso_refusal
use Rattle.iso_transport.specs.declared.verdict.Verdict.{Verdict}
use Rattle.iso_transport.specs.declared.verdict.Verdict.TheVariants as what
use Rattle.iso_transport.specs.Audience.{key_of}
use Rattle.iso_transport.specs.IsoRuns.{IsoPiece}
use Rattle.iso_transport.specs.RunVerdicts.{run_verdict}
use Rattle.gate_events.specs.declared.emit.Report.{Report}
use Rattle.gate_events.specs.declared.emit.Detail.{Detail}
use Rattle.gate_events.specs.declared.emit.Detail.TheVariants as detail
use Rattle.history.specs.Emits.{breaks, broken_of, report_of}
use Rattle.history.specs.Meanings as meanings
use Rattle.history.specs.Traces.{NotedFrame, fast_piece, iso_piece}
use Rattle.history.specs.Messages.{Message}
use Rattle.history.specs.BusRules.{is_early, message_rule, frame_breaks}

-- ---- fast packets

abbrev pub fast_rule : FastRefusal → ℕ
fast_rule fast_refusal.Order = rules.fast_order
fast_rule fast_refusal.Orphan = rules.fast_orphan
fast_rule fast_refusal.Length = rules.fast_length
fast_rule fast_refusal.Full = rules.slots_full

abbrev pub fast_refusal_breaks : Detail → Option FastRefusal → List Report
fast_refusal_breaks who None = []
fast_refusal_breaks who (Some reason) = report_of (fast_rule reason) who ∷ []

-- a frame of a fast packet breaks the rule of its refusal alone, but that a restart stands before it, and that the message that it
-- completes may be short
abbrev pub FastRulesAreRefusals : Type 0
FastRulesAreRefusals =
    (name : ℕ) (n : NotedFrame) (frames : Option (List FastPiece)) (message : Option Message)
    → frame_breaks name meanings.fast_packet n frames None message
    ≡ broken_of (breaks (fast.is_opener n.bytes && is_some frames) rules.restarted (detail.Source n.parts.source n.parts.pgn) ∷ [])
    ++ (fast_refusal_breaks (detail.Source n.parts.source n.parts.pgn) (refused frames (fast_piece n)) ++ broken_of (message_rule message ∷ []))

-- ---- the transport protocol

abbrev pub iso_refusal_breaks : NotedFrame → IsoRefusal → List Report
iso_refusal_breaks n iso_refusal.Size = report_of rules.iso_size (detail.Source n.parts.source n.parts.pgn) ∷ []
iso_refusal_breaks n iso_refusal.Order = report_of rules.iso_order (detail.Source n.parts.source n.parts.pgn) ∷ []
iso_refusal_breaks n iso_refusal.Orphan = report_of rules.iso_orphan (detail.Source n.parts.source n.parts.pgn) ∷ []
iso_refusal_breaks n (iso_refusal.Full pgn) = report_of rules.slots_full (detail.Source n.parts.source pgn) ∷ []
iso_refusal_breaks n (iso_refusal.Aborted pgn) = report_of rules.iso_aborted (detail.Source n.parts.source pgn) ∷ []

abbrev pub restart_breaks : NotedFrame → Option ℕ → List Report
restart_breaks n None = []
restart_breaks n (Some pgn) = report_of rules.restarted (detail.Source n.parts.source pgn) ∷ []

abbrev pub verdict_breaks : NotedFrame → Verdict → List Report
verdict_breaks n what.Ignored = []
verdict_breaks n what.Again = []
verdict_breaks n (what.Refused reason reply) = iso_refusal_breaks n reason
verdict_breaks n (what.Ends reason reply) = iso_refusal_breaks n reason
verdict_breaks n (what.Opens session old) = restart_breaks n old
verdict_breaks n (what.Next session number end) = []

-- a frame of the transport protocol breaks the rule that its verdict says, where an opener of an open session finds room; and rule 45
-- alone, where it is an RTS that comes too early
abbrev pub SessionRulesAreVerdicts : Type 0
SessionRulesAreVerdicts =
    (name : ℕ) (n : NotedFrame) (packets : Option (List IsoPiece)) (message : Option Message) → (n.admitted ≡ false → packets ≡ None)
    → is_early (key_of n.parts).addressed n.ready (iso_piece n) ≡ false
    → frame_breaks name meanings.transport n None packets message
    ≡ verdict_breaks n (run_verdict (key_of n.parts).addressed packets (iso_piece n)) ++ broken_of (message_rule message ∷ [])

abbrev pub EarlyBreaksNotReady : Type 0
EarlyBreaksNotReady =
    (name : ℕ) (n : NotedFrame) (packets : Option (List IsoPiece)) (message : Option Message)
    → is_early (key_of n.parts).addressed n.ready (iso_piece n) ≡ true
    → frame_breaks name meanings.transport n None packets message
    ≡ broken_of (message_rule message ∷ breaks true rules.not_ready (detail.Source n.parts.source n.parts.pgn) ∷ [])
