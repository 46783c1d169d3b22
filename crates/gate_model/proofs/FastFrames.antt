-- One frame of a fast packet does to what is kept what the history says.
use Rattle.std.proofs.Common.{◌≡◌, ℕ, ◌≤◌, Bool, true, false, ◌&&◌, not, List, [], ◌∷◌, ◌++◌, length, refl, sym, ap, subst, ◌∙◌, is_some}
use Rattle.std.specs.Prelude.{Option, Some, None, if◌then◌else◌}
use Rattle.std.specs.List.{AllByRecursion}
use Rattle.std.specs.BTreeMap.{is_at}
use Rattle.std.specs.declared.cmp.Ordering.{Ordering}
use Rattle.std.proofs.lemmas.Bool.{false≢true}
use Rattle.slot_views.specs.RunLaws.{fed, finished}
use Rattle.n2k_id.specs.declared.identifier_parts.Parts.{Parts}
use Rattle.n2k_id.specs.Frame.{BusFrame}
use Rattle.n2k_id.specs.Identifier.{parts_of}
use Rattle.gate_events.specs.declared.emit.Report.{Report}
use Rattle.gate_events.specs.declared.emit.Detail.TheVariants as detail
use Rattle.claim_table.specs.declared.answer.Holder.{Holder}
use Rattle.claim_table.specs.Claims.{holder_at}
use Rattle.slot_views.specs.Slots.{SlotMap, Changes, entry_at, is_full}
use Rattle.fast_packet.specs.declared.key.FastKey.{FastKey}
use Rattle.fast_packet.specs.FastRuns.{is_opener, FastPiece, fast_rules}
use Rattle.fast_packet.specs.Assembly.{fed_after}
use Rattle.fast_packet.specs.RunAssemblies.{assembly_at}
use Rattle.fast_packet.proofs.Keys.{steps_with_runs}
use Rattle.history.specs.Entries.{History, IsHistory, frame}
use Rattle.history.specs.Settings.{Receiver}
use Rattle.history.specs.Known.{known, is_claim, held_since}
use Rattle.history.specs.Traces.{NotedFrame, fast_piece, fast_trace}
use Rattle.history.specs.Opens.{is_fast, same_fast, is_fast_admitted, fast_open, notes_of}
use Rattle.history.specs.Meanings.{Meaning, fast_packet}
use Rattle.history.specs.Messages.{Message, done, said_by, fast_carried}
use Rattle.history.specs.Emits.{broken_of}
use Rattle.history.specs.BusRules.{message_rule, frame_breaks}
use Rattle.history.specs.RuleLaws.{fast_refusal_breaks}
use Rattle.history.specs.FromBus.{frames_before, packets_before, meaning_at, frame_refused}
use Rattle.history.specs.AddressLaws.{IsReceiver}
use Rattle.history.specs.KeyLaws.{StepsFast, the_note}
use Rattle.history.proofs.FastCounts.{same_is}
use Rattle.history.proofs.FastTable.{fast_rules_are_refusals}
use Rattle.history.proofs.KeySteps.{eqb-sym, no_transport, fast_steps, fast_keeps}
use Rattle.gate_model.specs.Orders.{OrdersFast}
use Rattle.gate_model.specs.FastPackets.{FastAnswer, fast_answer, key_of, answer_reports, restarted_reports, carried_by}
use Rattle.gate_model.specs.FastLaws.{StandsFastFor, FastFramesStand, FramesStandFast}
use Rattle.gate_model.proofs.FastTimes.{holds_all}
use Rattle.gate_model.proofs.FastAnswers.{Says, says, restart_said, carried_is}
use Rattle.gate_model.proofs.SaidTold.{message_said}
use Rattle.gate_model.proofs.FastOthers.{FastFacts, fast_facts, apart}
use Rattle.gate_model.proofs.FastTraces.{notes_short, trace_short, fed_now}

holder_of : (o : Option Holder) → is_some o ≡ true → (x : Holder) × (o ≡ Some x)
holder_of None e = absurd (false≢true e)
holder_of (Some x) e = (x, refl)

module _ (cmp : FastKey → FastKey → Ordering) (orders : OrdersFast cmp) (r : Receiver) (s : ℕ) (h : History) (m : ℕ) (f : BusFrame) (slots : SlotMap FastKey)
    (are : IsReceiver r)
    (is : IsHistory (frame m f ∷ h)) (means : meaning_at r s h m f ≡ fast_packet) (stands : StandsFastFor cmp r s h m slots) where
  abbrev holders : List (Option Holder)
  holders = (known r s h).claims.holders

  abbrev notes : List NotedFrame
  notes = notes_of r s h

  abbrev p : Parts
  p = parts_of f.id

  abbrev n : NotedFrame
  n = the_note r s h m f

  abbrev x : FastPiece
  x = fast_piece n

  abbrev key : FastKey
  key = key_of p

  abbrev trace : List FastPiece
  trace = fast_trace holders p.source p.pgn notes

  abbrev q : Option (List FastPiece)
  q = fast_open holders notes key m

  abbrev run : Option (List FastPiece)
  run = finished fast_rules q x

  abbrev answer : FastAnswer
  answer = fast_answer cmp slots key f.held m

  facts : FastFacts r.kinds holders p
  facts = fast_facts r.kinds (known r s h).claims.own holders p means

  other : is_claim f ≡ false
  other = rw (apart r p.pgn 60928 are.claims facts.fast) refl

  holder : (y : Holder) × (holder_at holders p.source ≡ Some y)
  holder = holder_of (holder_at holders p.source) facts.held

  steps : StepsFast r s h m f holder.0
  steps = fast_steps r s h m f holder.0 are facts.fast holder.1

  -- ---- room

  room : n.admitted ≡ not (is_full cmp slots key)
  room =
      rw (no_transport r are p facts.fast)
      (subst (λ (limit : ℕ). is_fast_admitted r.kinds limit holders notes key m ≡ not (is_full cmp slots key)) stands.limited
      ((holds_all r.kinds cmp r.fast_slots holders notes m slots orders stands).counts.room key))

  -- ---- what it is to its key

  found : entry_at cmp slots key ≡ assembly_at q
  found = stands.entries key ∙ ap (λ (b : Bool). if b then assembly_at q else None) (ap is_fast facts.fast)

  valid : AllByRecursion (λ x. length x.bytes ≤ 8) (x ∷ trace)
  valid = (is.0.1, trace_short (held_since holders p.source) p.source p.pgn notes (notes_short r s h is.2))

  says_it : Says answer q x run
  says_it = says orders.order slots key trace x valid found room

  changes : Changes cmp slots (fed_after cmp slots key f.held m) key (assembly_at (fed fast_rules q x))
  changes = (steps_with_runs orders.order).changes slots key trace x valid found room stands.map

  abbrev Entry_is : FastKey → Type 0
  Entry_is j =
      entry_at cmp (fed_after cmp slots key f.held m) j
      ≡ (if is_fast (r.kinds j.pgn) then assembly_at (fast_open (known r s (frame m f ∷ h)).claims.holders (notes_of r s (frame m f ∷ h)) j m) else None)

  own_entry : Entry_is key
  own_entry =
      rw (ap is_fast facts.fast)
      (changes.here ∙ ap assembly_at (sym (steps.left m ∙ fed_now trace x)))

  other_entry : (j : FastKey) → is_at (cmp key) j ≡ false → same_fast j key ≡ false → Entry_is j
  other_entry j apart different =
      changes.others j apart
      ∙ (stands.entries j
      ∙ ap (λ (o : Option (List FastPiece)). if is_fast (r.kinds j.pgn) then assembly_at o else None) (sym ((fast_keeps r s h m f other).others j m different)))

  turn : (a b : FastKey) → same_fast a b ≡ same_fast b a
  turn a b = rw (eqb-sym a.source b.source, eqb-sym a.pgn b.pgn) refl

  frame_stands : StandsFastFor cmp r s (frame m f ∷ h) m (fed_after cmp slots key f.held m)
  frame_stands = record {
    limited = changes.limit ∙ stands.limited;
    map = changes.map;
    entries = λ j. by j (is_at (cmp key) j) refl;
  }
    where
      by : (j : FastKey) (b : Bool) → is_at (cmp key) j ≡ b → Entry_is j
      by j true e = subst Entry_is (same_is key j (sym (orders.tells key j) ∙ e)) own_entry
      by j false e = other_entry j e (turn j key ∙ (sym (orders.tells key j) ∙ e))

  -- ---- the message that it completes, and what is reported

  carries : carried_by p.pgn answer ≡ fast_carried p.pgn run
  carries = carried_is p.pgn answer run says_it.payload

  done_is : done r s h (frame m f) ≡ said_by (length h) m p.source (Some holder.0) (carried_by p.pgn answer)
  done_is = steps.completed ∙ ap (said_by (length h) m p.source (Some holder.0)) (sym carries)

  refused_is : frame_refused r s h m f ≡ frame_breaks r.name fast_packet n q None (done r s h (frame m f))
  refused_is =
      ap (λ (meaning : Meaning). frame_breaks r.name meaning n (frames_before meaning holders notes m p)
      (packets_before meaning (known r s h) notes m p) (done r s h (frame m f))) means

  reports : frame_refused r s h m f ≡ answer_reports p answer (carried_by p.pgn answer)
  reports =
      refused_is
      ∙ (fast_rules_are_refusals r.name n q (done r s h (frame m f))
      ∙ three (restart_said p (is_opener x.bytes && is_some q) ∙ ap (restarted_reports p) (sym says_it.restarted))
      (ap (fast_refusal_breaks (detail.Source p.source p.pgn)) (sym says_it.refused))
      (ap (λ (d : Option Message). broken_of (message_rule d ∷ [])) done_is ∙ message_said (length h) m p.source holder.0 (carried_by p.pgn answer)))
    where
      three : {a b c d e g : List Report} → a ≡ b → c ≡ d → e ≡ g → a ++ (c ++ e) ≡ b ++ (d ++ g)
      three one two last = rw (one, two, last) refl

  pub frames_stand : FastFramesStand cmp r s h m f slots
  frames_stand = record {
    stands = frame_stands;
    room = room;
    reports = reports;
    completed = done_is ∙ ap (λ (o : Option Holder). said_by (length h) m p.source o (carried_by p.pgn answer)) (sym holder.1);
  }

pub frames_stand_fast : FramesStandFast
frames_stand_fast cmp orders r s h m f slots are is means stands = frames_stand cmp orders r s h m f slots are is means stands
