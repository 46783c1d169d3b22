-- What is reported of a line of a group, and what it gives (IEC 61162-450).
use Rattle.std.specs.Prelude.{ℕ, Bool, List, [], ◌∷◌, ◌++◌, None}
use Rattle.std.specs.declared.cmp.Ordering.{Ordering}
use Rattle.slot_views.specs.Slots.{SlotMap}
use Rattle.tag_block.specs.declared.group_key.GroupKey.{GroupKey}
use Rattle.tag_block.specs.declared.group_part.GroupPart.{GroupPart}
use Rattle.tag_block.specs.Groups.{key_of}
use Rattle.gate_events.specs.declared.emit.Detail.TheVariants as detail
use Rattle.gate_events.specs.Emit.{Emit}
use Rattle.history.specs.Emits.{breaks, broken_of, reported}
use Rattle.gate_model.specs.Net.{ReadingsKept, sentences_emit}
use Rattle.gate_model.specs.NetLines.{GroupAnswer, group_answer, group_reports, sentences_within}
use Rattle.row_traffic.specs.declared.network.heard.Heard.{Heard}
use Rattle.row_traffic.specs.NetCalls.{line_of}

-- a rule, where a line of the group broke it
abbrev pub group_fault : Bool → ℕ → GroupKey → List Emit
group_fault it rule key = reported (broken_of (breaks it rule (detail.GroupKey key.sfi key.code) ∷ []))

-- that it came out of order, and that there was no room
abbrev pub group_faults : GroupKey → Bool → Bool → List Emit
group_faults key disordered full = reported (group_reports key (record { disordered = disordered; full = full; whole = None }))

-- what an answer gives: its reports, and what the sentences give of the group that is complete
abbrev pub answer_emits : ReadingsKept → Heard → GroupKey → GroupAnswer → List Emit
answer_emits k line key a = reported (group_reports key a) ++ sentences_emit line.came.own k (line_of line) (sentences_within a.whole)

abbrev pub part_emits : (GroupKey → GroupKey → Ordering) → SlotMap GroupKey → ReadingsKept → Heard → List ℕ → GroupPart → List ℕ → List Emit
part_emits cmp s k line source part text =
    answer_emits k line (key_of source part) (group_answer cmp s (key_of source part) part text line.came.moment)
