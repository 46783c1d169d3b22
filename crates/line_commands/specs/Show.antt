-- What `show` writes for a line.
use Rattle.std.specs.Prelude.{ℕ, ◌-◌, List, [], ◌∷◌, ◌++◌, length, take, codes, Option, Some, None, Result, Ok, Err}
use Rattle.std.specs.List.{flat_map}
use Rattle.std.specs.Fmt.{decimal}
use Rattle.n2k_id.specs.Frame.{BusFrame}
use Rattle.n2k_id.specs.Identifier.{parts_of}
use Rattle.tag_block.specs.declared.group_part.GroupPart.{GroupPart}
use Rattle.tag_block.specs.Tag.{Said}
use Rattle.datagram450.specs.declared.fault.DatagramFault.{DatagramFault}
use Rattle.datagram450.specs.declared.fault.DatagramFault.TheVariants as faults
use Rattle.datagram450.specs.Datagram.{Item, line, bad, longest_datagram}
use Rattle.datagram450.specs.Datagram as datagrams
use Rattle.capture_text.specs.declared.line_rule.LineRule.{LineRule}
use Rattle.capture_text.specs.LineRule.{rule_number}
use Rattle.report_rules.specs.Rules.{datagram_header, datagram_long}
use Rattle.gate_events.specs.Event.{Seen, frame, datagram, tick}
use Rattle.capture_text.specs.Writing.{part}

abbrev pub start : ℕ → List ℕ
start number = codes "line=" ++ decimal number

abbrev pub tick_text : ℕ → List ℕ
tick_text number = start number ++ codes " tick\n"

-- the parts of the identifier, and how many data bytes there are
abbrev pub frame_text : ℕ → BusFrame → List ℕ
frame_text number seen = let p = parts_of seen.id in start number ++ part (codes "prio") p.priority ++ part (codes "pgn") p.pgn
    ++ part (codes "src") p.source ++ part (codes "dst") p.destination ++ part (codes "len") (length seen.held) ++ 10 ∷ []

abbrev pub rule_end : ℕ → List ℕ
rule_end rule = codes " rule " ++ decimal rule ++ 10 ∷ []

-- a rule about the line
abbrev pub rule_text : ℕ → ℕ → List ℕ
rule_text number rule = start number ++ rule_end rule

-- a rule about a place in its datagram
abbrev pub place_text : ℕ → ℕ → ℕ → List ℕ
place_text number at rule = start number ++ part (codes "at") at ++ rule_end rule

-- ---- a line of a datagram: what isn't there is a dash

abbrev pub text_or_dash : Option (List ℕ) → List ℕ
text_or_dash None = 45 ∷ []
text_or_dash (Some text) = text

abbrev pub group_text : ℕ → ℕ → ℕ → List ℕ
group_text number total code = decimal number ++ 45 ∷ (decimal total ++ 45 ∷ decimal code)

abbrev pub group_or_dash : Option GroupPart → List ℕ
group_or_dash None = 45 ∷ []
group_or_dash (Some group) = group_text group.number group.total group.code

abbrev pub count_or_dash : Option ℕ → List ℕ
count_or_dash None = 45 ∷ []
count_or_dash (Some count) = decimal count

-- a sentence without its CR and LF
abbrev pub without_end : List ℕ → List ℕ
without_end sentence = take (length sentence - 2) sentence

-- up to the destination
abbrev pub front_text : ℕ → ℕ → List ℕ → List ℕ
front_text number at source = start number ++ part (codes "at") at ++ codes " s=" ++ source ++ codes " d="

-- behind it, up to the sentence
abbrev pub middle_text : Option GroupPart → Option ℕ → List ℕ
middle_text group count = codes " g=" ++ group_or_dash group ++ codes " n=" ++ count_or_dash count ++ 32 ∷ []

abbrev pub line_text : ℕ → ℕ → Said → List ℕ → List ℕ
line_text number at said sentence = front_text number at said.source
    ++ (text_or_dash said.destination ++ (middle_text said.group said.count ++ (without_end sentence ++ 10 ∷ [])))

abbrev pub item_text : ℕ → Item → List ℕ
item_text number (line at said sentence parts) = line_text number at said sentence
item_text number (bad rule at) = place_text number at rule

-- one line for each item of a datagram, or one where it has no header or is too long
abbrev pub items_text : ℕ → Result (List Item) DatagramFault → List ℕ
items_text number (Ok items) = flat_map (item_text number) items
items_text number (Err (faults.Header place)) = place_text number place datagram_header
items_text number (Err faults.Long) = place_text number longest_datagram datagram_long

-- ---- the line

abbrev pub seen_text : ℕ → Seen → List ℕ
seen_text number (frame moment seen) = frame_text number seen
seen_text number (datagram moment bytes) = items_text number (datagrams.read bytes)
seen_text number (tick moment) = tick_text number

abbrev pub said_text : ℕ → Result Seen LineRule → List ℕ
said_text number (Ok seen) = seen_text number seen
said_text number (Err rule) = rule_text number (rule_number rule)
