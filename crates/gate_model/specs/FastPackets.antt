-- What a gateway makes of the fast packets (canboat) that it keeps, as plain values: when a frame of one comes from a source that holds its
-- address, and when addresses change hands (ISO 11783-5). Nothing here speaks of what came before.
use Rattle.std.specs.Prelude.{ℕ, Bool, false, ◌||◌, List, [], ◌∷◌, ◌++◌, Option, Some, None, option_map, if◌then◌else◌}
use Rattle.std.specs.declared.cmp.Ordering.{Ordering}
use Rattle.report_rules.specs.Rules as rules
use Rattle.gate_events.specs.declared.emit.Report.{Report}
use Rattle.gate_events.specs.declared.emit.Detail.{Detail}
use Rattle.gate_events.specs.declared.emit.Detail.TheVariants as detail
use Rattle.n2k_id.specs.declared.identifier_parts.Parts.{Parts}
use Rattle.claim_table.specs.Claims.{is_at}
use Rattle.slot_views.specs.Slots.{Entry, SlotMap, entry_at, is_held, is_full, is_complete, remaining}
use Rattle.fast_packet.specs.declared.key.FastKey.{FastKey}
use Rattle.fast_packet.specs.declared.verdict.Verdict.{Verdict}
use Rattle.fast_packet.specs.declared.verdict.Verdict.TheVariants.{Short, Opens, Orphan, Again, OutOfOrder, Next}
use Rattle.fast_packet.specs.declared.answers.FastRefusal.{FastRefusal}
use Rattle.fast_packet.specs.declared.answers.FastRefusal.TheVariants as refusal
use Rattle.fast_packet.specs.declared.answers.FastOutcome.{FastOutcome}
use Rattle.fast_packet.specs.declared.answers.FastOutcome.TheVariants.{Held, Complete, Repeat, Refused}
use Rattle.fast_packet.specs.declared.answers.FastFed.{FastFed}
use Rattle.fast_packet.specs.Assembly.{verdict, opening, extended, fed_after, is_from}
use Rattle.gate_events.specs.Emit.{Emit}
use Rattle.history.specs.Emits.{report_of}
use Rattle.history.specs.Messages.{Carried, carried}
use Rattle.history.specs.RuleLaws.{fast_refusal_breaks}
use Rattle.gate_model.specs.Endings.{fast_lost}
use Rattle.gate_model.specs.Said.{short_reports}

-- ---- the answer to a frame

pub record FastAnswer : Type 0 where
  -- a message that was open is given up for another one of its key
  pub restarted : Bool
  -- why the frame is refused
  pub refused : Option FastRefusal
  -- the payload of the message that it completes
  pub payload : Option (List ℕ)

abbrev pub whole_of : Entry → Option (List ℕ)
whole_of e = if is_complete e then Some e.bytes else None

abbrev pub whole_with : ℕ → List ℕ → ℕ → Option Entry → Option (List ℕ)
whole_with end bytes moment None = None
whole_with end bytes moment (Some e) = whole_of (extended end bytes moment e)

abbrev pub refuses : FastRefusal → FastAnswer
refuses reason = record { restarted = false; refused = Some reason; payload = None }

-- by what the frame is to the assembly of its key
module _ (cmp : FastKey → FastKey → Ordering) (slots : SlotMap FastKey) (key : FastKey) (bytes : List ℕ) (moment : ℕ) where
  abbrev pub answer_by : Verdict → FastAnswer
  answer_by Short = refuses refusal.Length
  answer_by Opens = record {
    restarted = is_held cmp slots key;
    refused = if is_full cmp slots key then Some refusal.Full else None;
    payload = if is_full cmp slots key then None else whole_of (opening bytes moment);
  }
  answer_by Orphan = refuses refusal.Orphan
  answer_by Again = record { restarted = false; refused = None; payload = None }
  answer_by OutOfOrder = refuses refusal.Order
  answer_by (Next end) = record { restarted = false; refused = None; payload = whole_with end bytes moment (entry_at cmp slots key) }

  abbrev pub fast_answer : FastAnswer
  fast_answer = answer_by (verdict (entry_at cmp slots key) bytes)

-- what the assembler of fast packets answers, in these terms
abbrev pub refusal_in : FastOutcome → Option FastRefusal
refusal_in Held = None
refusal_in (Complete view) = None
refusal_in Repeat = None
refusal_in (Refused reason) = Some reason

abbrev pub payload_in : FastOutcome → Option (List ℕ)
payload_in Held = None
payload_in (Complete view) = Some view.bytes.now
payload_in Repeat = None
payload_in (Refused reason) = None

abbrev pub answer_of : FastFed → FastAnswer
answer_of fed = record { restarted = fed.restarted; refused = refusal_in fed.outcome; payload = payload_in fed.outcome }

-- ---- what is reported of it

abbrev pub key_of : Parts → FastKey
key_of parts = record { source = parts.source; pgn = parts.pgn }

abbrev pub sender_of : Parts → Detail
sender_of parts = detail.Source parts.source parts.pgn

abbrev pub restarted_reports : Parts → Bool → List Report
restarted_reports parts restarted = if restarted then report_of rules.restarted (sender_of parts) ∷ [] else []

abbrev pub answer_reports : Parts → FastAnswer → Option Carried → List Report
answer_reports parts answer done =
    restarted_reports parts answer.restarted ++ (fast_refusal_breaks (sender_of parts) answer.refused ++ short_reports parts.source done)

-- ---- a frame: what it makes of the slots, the rules that it breaks, and the message that it completes

pub record FastStep : Type 0 where
  pub slots : SlotMap FastKey
  pub reports : List Report
  pub done : Option Carried

abbrev pub carried_by : ℕ → FastAnswer → Option Carried
carried_by pgn answer = option_map (λ payload. carried pgn payload) answer.payload

abbrev pub fast_step : (FastKey → FastKey → Ordering) → SlotMap FastKey → Parts → List ℕ → ℕ → FastStep
fast_step cmp slots parts bytes moment =
    let answer = fast_answer cmp slots (key_of parts) bytes moment in
    let done = carried_by parts.pgn answer in
    record { slots = fed_after cmp slots (key_of parts) bytes moment; reports = answer_reports parts answer done; done = done }

-- ---- addresses that change hands: all fast packets of an address end that was left or won, those of the one that was left first

abbrev pub without_source : Option ℕ → SlotMap FastKey → SlotMap FastKey
without_source None slots = slots
without_source (Some a) slots = remaining (is_from a) slots

abbrev pub lost_of_source : Option ℕ → SlotMap FastKey → List Emit
lost_of_source None slots = []
lost_of_source (Some a) slots = fast_lost (is_from a) slots

module _ (left won : Option ℕ) where
  -- a fast packet ends
  abbrev pub is_given_up : FastKey × Entry → Bool
  is_given_up e = is_at e.0.source left || is_at e.0.source won

  -- those that remain
  abbrev pub fast_kept : SlotMap FastKey → SlotMap FastKey
  fast_kept slots = without_source won (without_source left slots)
