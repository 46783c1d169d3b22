-- What the gateway makes of the sessions of the transport protocol (ISO 11783-3) that it keeps, as plain values: when a frame comes to all
-- or to its own address from a source that holds an address, and when addresses change hands (ISO 11783-5).
use Rattle.std.specs.Prelude.{◌≡◌, ℕ, Bool, true, false, ◌&&◌, ◌||◌, List, [], ◌∷◌, ◌++◌, Option, Some, None, option_map, if◌then◌else◌}
use Rattle.std.specs.declared.cmp.Ordering.{Ordering}
use Rattle.report_rules.specs.Rules as rules
use Rattle.gate_events.specs.declared.emit.Report.{Report}
use Rattle.gate_events.specs.declared.emit.Detail.TheVariants as detail
use Rattle.n2k_id.specs.declared.identifier_parts.Parts.{Parts}
use Rattle.claim_table.specs.Claims.{is_at}
use Rattle.claim_table.specs.declared.answer.OwnAnswer.{OwnAnswer}
use Rattle.claim_table.specs.declared.answer.OwnAnswer.TheVariants.{Silent, Defend, Move, CannotClaim, Duplicate}
use Rattle.slot_views.specs.Slots.{Entry, SlotMap, entry_at, remaining}
use Rattle.iso_transport.specs.declared.key.IsoKey.{IsoKey}
use Rattle.iso_transport.specs.declared.reply.Reply.{Reply}
use Rattle.iso_transport.specs.declared.verdict.Verdict.{Verdict}
use Rattle.iso_transport.specs.declared.answers.IsoRefusal.{IsoRefusal}
use Rattle.iso_transport.specs.declared.answers.IsoRefusal.TheVariants as refusal
use Rattle.iso_transport.specs.declared.answers.IsoFed.{IsoFed}
use Rattle.iso_transport.specs.declared.answers.IsoOutcome.{IsoOutcome}
use Rattle.iso_transport.specs.declared.answers.IsoOutcome.TheVariants.{Ignored, Held, Complete, Repeat, Refused}
use Rattle.iso_transport.specs.Audience.{key_of, is_data}
use Rattle.iso_transport.specs.IsoRuns.{IsoPiece}
use Rattle.iso_transport.specs.Assembly.{verdict_of, fed_after, is_from, is_addressed}
use Rattle.iso_transport.specs.Answers.{restarted_by, reply_by}
use Rattle.iso_transport.specs.Keys.{refusal_of}
use Rattle.iso_transport.specs.RunVerdicts.{Message, completed_by}
use Rattle.iso_transport.specs.Joining.{piece_of}
use Rattle.gate_events.specs.Emit.{Emit}
use Rattle.history.specs.Emits.{report_of}
use Rattle.history.specs.Messages.{Carried, carried}
use Rattle.history.specs.BusRules.{is_early}
use Rattle.gate_model.specs.Endings.{sessions_lost}
use Rattle.gate_model.specs.Said.{short_reports}

-- ---- the answer to a frame that is fed

pub record SessionAnswer : Type 0 where
  -- the message that is given up for another one of its sender
  pub restarted : Option ℕ
  -- why the frame is refused
  pub refusal : Option IsoRefusal
  -- what its sender is told
  pub reply : Option Reply
  -- the message that it completes
  pub message : Option Message

-- by what the frame is to the session of its key
abbrev pub answer_by : Bool → Verdict → IsoPiece → Option Entry → SessionAnswer
answer_by addressed v x o = record {
  restarted = restarted_by v;
  refusal = refusal_of v;
  reply = reply_by addressed v;
  message = completed_by addressed v x o;
}

-- what became of a frame is this: a refusal, or a message that lies where it is lent, or neither
abbrev pub IsOutcome : SessionAnswer → IsoOutcome → Type 0
IsOutcome answer Ignored = (answer.refusal ≡ None) × (answer.message ≡ None)
IsOutcome answer Held = (answer.refusal ≡ None) × (answer.message ≡ None)
IsOutcome answer (Complete pgn view) = (answer.refusal ≡ None) × (answer.message ≡ Some (record { pgn = pgn; bytes = view.bytes.now }))
IsOutcome answer Repeat = (answer.refusal ≡ None) × (answer.message ≡ None)
IsOutcome answer (Refused reason) = (answer.refusal ≡ Some reason) × (answer.message ≡ None)

pub record IsAnswer (answer : SessionAnswer) (fed : IsoFed) : Type 0 where
  pub restarted : fed.restarted ≡ answer.restarted
  pub reply : fed.reply ≡ answer.reply
  pub outcome : IsOutcome answer fed.outcome

-- ---- what is reported of a frame

abbrev pub refusal_report : Parts → IsoRefusal → Report
refusal_report parts refusal.Size = report_of rules.iso_size (detail.Source parts.source parts.pgn)
refusal_report parts refusal.Order = report_of rules.iso_order (detail.Source parts.source parts.pgn)
refusal_report parts refusal.Orphan = report_of rules.iso_orphan (detail.Source parts.source parts.pgn)
refusal_report parts (refusal.Full pgn) = report_of rules.slots_full (detail.Source parts.source pgn)
refusal_report parts (refusal.Aborted pgn) = report_of rules.iso_aborted (detail.Source parts.source pgn)

abbrev pub refused_reports : Parts → Option IsoRefusal → List Report
refused_reports parts None = []
refused_reports parts (Some reason) = refusal_report parts reason ∷ []

abbrev pub restarted_reports : ℕ → Option ℕ → List Report
restarted_reports source None = []
restarted_reports source (Some pgn) = report_of rules.restarted (detail.Source source pgn) ∷ []

-- an RTS that comes before the gateway may answer it
abbrev pub early_report : Parts → Report
early_report parts = report_of rules.not_ready (detail.Source parts.source parts.pgn)

-- ---- a frame

-- it is an RTS to the gateway's own address that comes before it may answer; when it came and whether it finds room play no part
abbrev pub comes_early : Parts → List ℕ → Bool → Bool
comes_early parts bytes ready =
    is_early (key_of parts).addressed ready (record { moment = 0; packet = is_data parts; bytes = bytes; admitted = false })

-- what it makes: the sessions, the rules that it breaks, what its sender is told, and the message that it completes
pub record SessionStep : Type 0 where
  pub slots : SlotMap IsoKey
  pub reports : List Report
  pub reply : Option Reply
  pub done : Option Carried

abbrev pub answer_reports : Parts → SessionAnswer → Option Carried → List Report
answer_reports parts answer done =
    restarted_reports parts.source answer.restarted ++ (refused_reports parts answer.refusal ++ short_reports parts.source done)

abbrev pub carried_by : Option Message → Option Carried
carried_by message = option_map (λ x. carried x.pgn x.bytes) message

module _ (cmp : IsoKey → IsoKey → Ordering) (slots : SlotMap IsoKey) (own : Option ℕ) (parts : Parts) (bytes : List ℕ) (moment : ℕ) where
  abbrev pub answer_of : SessionAnswer
  answer_of =
      answer_by (key_of parts).addressed (verdict_of cmp slots own parts bytes) (piece_of cmp slots parts bytes moment)
      (entry_at cmp slots (key_of parts))

  -- where it is fed
  abbrev pub fed_step : SessionStep
  fed_step = record {
    slots = fed_after cmp slots own parts bytes moment;
    reports = answer_reports parts answer_of (carried_by answer_of.message);
    reply = answer_of.reply;
    done = carried_by answer_of.message;
  }

  -- where it comes too early, it changes nothing and has no reply
  abbrev pub early_step : SessionStep
  early_step = record { slots = slots; reports = early_report parts ∷ []; reply = None; done = None }

  abbrev pub session_step : Bool → SessionStep
  session_step ready = if comes_early parts bytes ready then early_step else fed_step

-- ---- addresses that change hands: all sessions of an address end that was left or won, and all to the own address where that is another
-- one now; first those of the address that was left, then those of the one that was won, then those to the own address

-- the gateway has another address by its answer to a claim, or none any more
abbrev pub is_move : OwnAnswer → Bool
is_move Silent = false
is_move Defend = false
is_move (Move address) = true
is_move CannotClaim = true
is_move Duplicate = false

abbrev pub without_source : Option ℕ → SlotMap IsoKey → SlotMap IsoKey
without_source None slots = slots
without_source (Some a) slots = remaining (is_from a) slots

abbrev pub lost_of_source : Option ℕ → SlotMap IsoKey → List Emit
lost_of_source None slots = []
lost_of_source (Some a) slots = sessions_lost (is_from a) slots

abbrev pub without_addressed : Bool → SlotMap IsoKey → SlotMap IsoKey
without_addressed false slots = slots
without_addressed true slots = remaining is_addressed slots

abbrev pub lost_addressed : Bool → SlotMap IsoKey → List Emit
lost_addressed false slots = []
lost_addressed true slots = sessions_lost is_addressed slots

module _ (left won : Option ℕ) (moved : Bool) where
  -- a session ends
  abbrev pub is_given_up : IsoKey × Entry → Bool
  is_given_up e = (is_at e.0.source left || is_at e.0.source won) || (e.0.addressed && moved)

  -- those that remain
  abbrev pub sessions_kept : SlotMap IsoKey → SlotMap IsoKey
  sessions_kept slots = without_addressed moved (without_source won (without_source left slots))
