-- Which rules a datagram breaks (IEC 61162-450), and its items, sentences (IEC 61162-1) and readings: each part in the order of the
-- rules' numbers.
use Rattle.std.specs.Prelude.{ℕ, Bool, ◌&&◌, not, ◌==◌, List, [], ◌∷◌, Option, Some, None, is_some, is_none, Result, Ok, Err, if◌then◌else◌}
use Rattle.report_rules.specs.Rules as rules
use Rattle.sentence_profile.specs.declared.fault.FieldFault.{FieldFault}
use Rattle.sentence_profile.specs.declared.fault.FieldFault.TheVariants.{Outside, Form, Range}
use Rattle.tag_block.specs.declared.group_part.GroupPart.{GroupPart}
use Rattle.tag_block.specs.declared.group_key.GroupKey.{GroupKey}
use Rattle.tag_block.specs.Tag.{Said}
use Rattle.tag_block.specs.GroupRuns.{GroupLine, is_next}
use Rattle.datagram450.specs.declared.fault.DatagramFault.{DatagramFault}
use Rattle.datagram450.specs.declared.fault.DatagramFault.TheVariants.{Header, Long}
use Rattle.datagram450.specs.Datagram.{longest_datagram, Item, line, bad}
use Rattle.gate_events.specs.declared.emit.Report.{Report}
use Rattle.gate_events.specs.declared.emit.Detail.TheVariants as detail
use Rattle.history.specs.Settings.{Settings, is_some_that}
use Rattle.history.specs.Emits.{breaks, broken_of, report_of}
use Rattle.history.specs.Heard.{HeardItem, Taken, several, group_line, group_open, place_of, is_own_line, is_elsewhere, is_taken, taken_as}
use Rattle.history.specs.NetReadings.{NetReading}

-- ---- a datagram: it has no header, or more bytes than a datagram may have

abbrev pub datagram_breaks : {A : Type 0} → Result A DatagramFault → List Report
datagram_breaks (Ok items) = []
datagram_breaks (Err (Header place)) = report_of rules.datagram_header (detail.At place) ∷ []
datagram_breaks (Err Long) = report_of rules.datagram_long (detail.At longest_datagram) ∷ []

-- ---- a line that isn't taken: of the gateway itself; for another device; or of a source that isn't listed

abbrev pub line_breaks : Settings → ℕ → Said → List Report
line_breaks c place said =
    let own = is_own_line c said in
    let elsewhere = is_elsewhere c said.destination in
    broken_of
    (breaks (not own && (not elsewhere && is_none (place_of c said.source))) rules.unlisted_source (detail.At place)
    ∷ breaks own rules.own_line (detail.At place)
    ∷ breaks (not own && elsewhere) rules.other_destination (detail.At place)
    ∷ [])

-- ---- a line of a group: it is the first one of an open group, or neither a first one nor the next; or it is a first one without room

-- the line is the next one of the group that is open
abbrev pub continues : Option (List GroupLine) → GroupLine → Bool
continues lines x = is_some_that (λ acc. is_next acc x) lines

abbrev pub part_breaks : List Taken → Taken → Option GroupPart → List Report
part_breaks lines t None = []
part_breaks lines t (Some part) =
    let key : GroupKey = record { sfi = t.source; code = part.code } in
    let first = part.number == 1 in
    let open_group = group_open lines key t.moment in
    broken_of
    (breaks (if first then is_some open_group else not (continues open_group (group_line t part))) rules.group_order (detail.GroupKey t.source part.code)
    ∷ breaks (first && not t.admitted) rules.group_slots_full (detail.GroupKey t.source part.code)
    ∷ [])

-- ---- an item after these lines: it is no line, or a line that isn't taken, or one of a group

abbrev pub item_breaks_as : Settings → List Taken → HeardItem → Item → List Report
item_breaks_as c lines x (bad rule place) = report_of rule (detail.At place) ∷ []
item_breaks_as c lines x (line place said sentence parts) =
    if is_taken c said then part_breaks lines (taken_as c lines x place said sentence) (several said.group) else line_breaks c place said

abbrev pub item_breaks : Settings → List Taken → HeardItem → List Report
item_breaks c lines x = item_breaks_as c lines x x.item

-- ---- a sentence that is handed over: a field isn't of its form, or out of its range

abbrev pub sentence_breaks : Taken → FieldFault → List Report
sentence_breaks t Outside = []
sentence_breaks t (Form field) = report_of rules.field_form (detail.AtField t.place field) ∷ []
sentence_breaks t (Range field) = report_of rules.field_range (detail.AtField t.place field) ∷ []

-- ---- a selected reading, where the gateway isn't ready

abbrev pub reading_breaks : NetReading → List Report
reading_breaks n = broken_of (breaks (not n.line.ready) rules.not_ready (detail.At n.line.place) ∷ [])
