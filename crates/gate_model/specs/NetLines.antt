-- What a gateway keeps of the network (IEC 61162-450), as plain values, and what a line of a group, an item and a datagram make of it and
-- give. Nothing here speaks of what came before.
use Rattle.std.specs.Prelude.{ℕ, Bool, true, false, ◌||◌, List, [], ◌∷◌, ◌++◌, Option, Some, None, Result, if◌then◌else◌}
use Rattle.std.specs.declared.cmp.Ordering.{Ordering}
use Rattle.report_rules.specs.Rules as rules
use Rattle.slot_views.specs.Slots.{Entry, SlotMap, grown, entry_at, is_held, is_full, is_complete}
use Rattle.slot_views.specs.Traces.{unexpired}
use Rattle.tag_block.specs.declared.group_key.GroupKey.{GroupKey}
use Rattle.tag_block.specs.declared.group_part.GroupPart.{GroupPart}
use Rattle.tag_block.specs.declared.group_verdict.GroupVerdict.{GroupVerdict}
use Rattle.tag_block.specs.declared.group_verdict.GroupVerdict.TheVariants.{Opens, Follows, Breaks}
use Rattle.tag_block.specs.declared.group_answers.GroupFed.{GroupFed}
use Rattle.tag_block.specs.declared.group_answers.GroupOutcome.{GroupOutcome}
use Rattle.tag_block.specs.declared.group_answers.GroupOutcome.TheVariants.{Held, Complete, Order, Full}
use Rattle.tag_block.specs.Groups.{key_of, verdict, opening, fed_after}
use Rattle.tag_block.specs.GroupRuns.{group_gap}
use Rattle.tag_block.specs.Tag.{Said}
use Rattle.datagram450.specs.declared.fault.DatagramFault.{DatagramFault}
use Rattle.datagram450.specs.Datagram.{cut, Item, line, bad}
use Rattle.gate_events.specs.declared.emit.Report.{Report}
use Rattle.gate_events.specs.declared.emit.Detail.TheVariants as detail
use Rattle.history.specs.Settings.{Settings}
use Rattle.gate_events.specs.Emit.{Emit}
use Rattle.history.specs.Emits.{breaks, broken_of, broken, reported}
use Rattle.history.specs.Heard.{several, place_of, is_taken}
use Rattle.history.specs.NetRules.{datagram_breaks, line_breaks}
use Rattle.history.specs.FromNet.{items_in}
use Rattle.gate_model.specs.Net.{ReadingsKept, LineHeard, no_readings, sentences_after, sentences_emit}

pub record NetKept : Type 0 where
  -- the groups of lines that are open, by source and code
  pub groups : SlotMap GroupKey
  pub readings : ReadingsKept

abbrev pub nothing_kept : Settings → NetKept
nothing_kept c = record { groups = record { limit = c.group_slots; entries = [] }; readings = no_readings c }

-- at a later moment, where all that is overdue has ended
abbrev pub kept_until : ℕ → NetKept → NetKept
kept_until m k = record k { groups = unexpired m k.groups }

-- ---- the answer to a line of a group: whether it came out of order, whether there was no room for its group, and the sentences of the
-- group that it completes, one after the other

pub record GroupAnswer : Type 0 where
  pub disordered : Bool
  pub full : Bool
  pub whole : Option (List ℕ)

abbrev pub whole_of : Entry → Option (List ℕ)
whole_of e = if is_complete e then Some e.bytes else None

abbrev pub whole_with : List ℕ → ℕ → Option Entry → Option (List ℕ)
whole_with sentence moment None = None
whole_with sentence moment (Some e) = whole_of (grown e sentence moment group_gap)

module _ (cmp : GroupKey → GroupKey → Ordering) (s : SlotMap GroupKey) (k : GroupKey) (part : GroupPart) (sentence : List ℕ) (moment : ℕ) where
  abbrev pub answer_by : GroupVerdict → GroupAnswer
  answer_by Opens = record {
    disordered = is_held cmp s k;
    full = is_full cmp s k;
    whole = if is_full cmp s k then None else whole_of (opening part sentence moment);
  }
  answer_by Follows = record { disordered = false; full = false; whole = whole_with sentence moment (entry_at cmp s k) }
  answer_by Breaks = record { disordered = true; full = false; whole = None }

  abbrev pub group_answer : GroupAnswer
  group_answer = answer_by (verdict (entry_at cmp s k) part)

-- what the assembler of groups answers, in these terms
abbrev pub is_disorder : GroupOutcome → Bool
is_disorder Held = false
is_disorder (Complete view) = false
is_disorder Order = true
is_disorder Full = false

abbrev pub finds_no_room : GroupOutcome → Bool
finds_no_room Held = false
finds_no_room (Complete view) = false
finds_no_room Order = false
finds_no_room Full = true

abbrev pub whole_in : GroupOutcome → Option (List ℕ)
whole_in Held = None
whole_in (Complete view) = Some view.bytes.now
whole_in Order = None
whole_in Full = None

abbrev pub answer_of : GroupFed → GroupAnswer
answer_of fed = record { disordered = fed.restarted || is_disorder fed.outcome; full = finds_no_room fed.outcome; whole = whole_in fed.outcome }

-- each sentence reaches up to its LF, so the joined ones are cut into the very sentences
abbrev pub sentences_within : Option (List ℕ) → List (List ℕ)
sentences_within None = []
sentences_within (Some bytes) = (cut bytes).lines

abbrev pub group_reports : GroupKey → GroupAnswer → List Report
group_reports key a =
    broken_of
    (breaks a.disordered rules.group_order (detail.GroupKey key.sfi key.code)
    ∷ breaks a.full rules.group_slots_full (detail.GroupKey key.sfi key.code)
    ∷ [])

-- ---- the items of a datagram

module _ (cmp : GroupKey → GroupKey → Ordering) (c : Settings) (m : ℕ) (ready : Bool) where
  -- a line that is taken, of a source at this place among those that are listed: in no group of two lines or more, or in one
  abbrev pub taken_after : NetKept → LineHeard → List ℕ → List ℕ → Option GroupPart → NetKept
  taken_after k l source sentence None = record k { readings = sentences_after k.readings l (sentence ∷ []) }
  taken_after k l source sentence (Some part) = let key = key_of source part in record {
    groups = fed_after cmp k.groups key part sentence m;
    readings = sentences_after k.readings l (sentences_within (group_answer cmp k.groups key part sentence m).whole);
  }

  abbrev pub taken_emits : Option ℕ → NetKept → LineHeard → List ℕ → List ℕ → Option GroupPart → List Emit
  taken_emits own k l source sentence None = sentences_emit own k.readings l (sentence ∷ [])
  taken_emits own k l source sentence (Some part) =
      let key = key_of source part in
      let a = group_answer cmp k.groups key part sentence m in
      reported (group_reports key a) ++ sentences_emit own k.readings l (sentences_within a.whole)

  abbrev pub line_at : ℕ → ℕ → LineHeard
  line_at place source = record { moment = m; ready = ready; place = place; source = source; optional = c.optional_sentences }

  -- a line, by its source's place among those that are listed
  abbrev pub line_after : NetKept → ℕ → Said → List ℕ → Option ℕ → NetKept
  line_after k place said sentence None = k
  line_after k place said sentence (Some source) =
      if is_taken c said then taken_after k (line_at place source) said.source sentence (several said.group) else k

  abbrev pub line_emits : Option ℕ → NetKept → ℕ → Said → List ℕ → Option ℕ → List Emit
  line_emits own k place said sentence None = reported (line_breaks c place said)
  line_emits own k place said sentence (Some source) =
      if is_taken c said then taken_emits own k (line_at place source) said.source sentence (several said.group)
      else reported (line_breaks c place said)

  abbrev pub item_after : NetKept → Item → NetKept
  item_after k (line place said sentence parts) = line_after k place said sentence (place_of c said.source)
  item_after k (bad rule place) = k

  abbrev pub item_emits : Option ℕ → NetKept → Item → List Emit
  item_emits own k (line place said sentence parts) = line_emits own k place said sentence (place_of c said.source)
  item_emits own k (bad rule place) = broken rule (detail.At place) ∷ []

  abbrev pub items_after : NetKept → List Item → NetKept
  items_after k [] = k
  items_after k (i ∷ items) = items_after (item_after k i) items

  abbrev pub items_emit : Option ℕ → NetKept → List Item → List Emit
  items_emit own k [] = []
  items_emit own k (i ∷ items) = item_emits own k i ++ items_emit own (item_after k i) items

  -- ---- a datagram

  abbrev pub datagram_after : NetKept → Result (List Item) DatagramFault → NetKept
  datagram_after k read = items_after k (items_in read)

  abbrev pub datagram_emits : Option ℕ → NetKept → Result (List Item) DatagramFault → List Emit
  datagram_emits own k read = reported (datagram_breaks read) ++ items_emit own k (items_in read)
