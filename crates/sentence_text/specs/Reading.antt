-- What a line reads as: the parts of its sentence, or the first rule that it breaks, with its place.
use Rattle.std.specs.Prelude.{ℕ, ◌+◌, min, Bool, true, ◌&&◌, ◌||◌, ◌==◌, not, nat_le, nat_lt, List, [], ◌∷◌, length, take, drop, slice_index, Option, Some, None, Result, Ok, Err, if◌then◌else◌}
use Rattle.std.specs.List.{prefix_len, take_while}
use Rattle.std.specs.Option.{option_or}
use Rattle.sentence_text.specs.declared.fault.SentenceFault.{SentenceFault}
use Rattle.sentence_text.specs.declared.fault.SentenceRule.{SentenceRule}
use Rattle.sentence_text.specs.declared.fault.SentenceRule.TheVariants as rules
use Rattle.sentence_text.specs.declared.sentence.Sentence.{Sentence}
use Rattle.sentence_text.specs.Byte.{is_address_byte, is_body_byte}
use Rattle.sentence_text.specs.Sentence.{SentenceParts, longest_line, shortest_address, longest_address, xor_of}
use Rattle.sentence_text.specs.declared.sum.SumFault.{SumFault}
use Rattle.sentence_text.specs.Sum.{sum_fault, digit_place}

abbrev pub fault : SentenceRule → ℕ → Option SentenceFault
fault rule place = Some (record { rule = rule; place = place })

abbrev pub is_start : ℕ → Bool
is_start c = c == 36 || c == 33

-- an address reaches up to a comma, a `*` or the end
abbrev pub ends_address : List ℕ → Bool
ends_address [] = true
ends_address (c ∷ cs) = c == 44 || c == 42

abbrev pub address_len : List ℕ → ℕ
address_len line = prefix_len is_address_byte (drop 1 line)

abbrev pub has_address : List ℕ → Bool
has_address line = nat_le shortest_address (address_len line) && nat_le (address_len line) longest_address && ends_address (drop (address_len line) (drop 1 line))

-- Long, Start and Address
unfoldable pub front_fault : List ℕ → Option SentenceFault
front_fault line = if nat_lt longest_line (length line) then fault rules.Long longest_line
    else if not (is_start (slice_index line 0)) then fault rules.Start 0
    else if not (has_address line) then fault rules.Address (1 + min (address_len line) longest_address)
    else None

-- the bytes behind the start up to the first that no field may hold, and what follows them
abbrev pub content_at : List ℕ → List ℕ
content_at line = take_while is_body_byte (drop 1 line)

abbrev pub behind_content : List ℕ → List ℕ
behind_content line = drop (prefix_len is_body_byte (drop 1 line)) (drop 1 line)

-- NoSum and Byte, where this follows the content at this place
abbrev pub star_fault : List ℕ → ℕ → Option SentenceFault
star_fault [] place = fault rules.NoSum place
star_fault (c ∷ cs) place = if c == 42 then None
    else if c == 13 || c == 10 then fault rules.NoSum place
    else fault rules.Byte place

-- Sum: a byte that isn't there is 0, which is no digit
abbrev pub sum_fault_from : ℕ → Option SumFault → Option SentenceFault
sum_fault_from place None = None
sum_fault_from place (Some f) = fault rules.Sum (place + digit_place f)

abbrev pub sum_fault_at : ℕ → List ℕ → ℕ → Option SentenceFault
sum_fault_at sum tail place = sum_fault_from place (sum_fault sum (slice_index tail 1) (slice_index tail 2))

-- End: a byte that isn't there is neither CR nor LF
unfoldable pub end_fault : List ℕ → ℕ → Option SentenceFault
end_fault tail place = if not (slice_index tail 3 == 13) then fault rules.End (place + 3)
    else if not (slice_index tail 4 == 10) then fault rules.End (place + 4)
    else if nat_lt 5 (length tail) then fault rules.End (place + 5)
    else None

abbrev pub tail_fault : ℕ → List ℕ → ℕ → Option SentenceFault
tail_fault sum tail place = option_or (star_fault tail place) (option_or (sum_fault_at sum tail place) (end_fault tail place))

-- the first rule that the line breaks
abbrev pub fault_of : List ℕ → Option SentenceFault
fault_of line = option_or (front_fault line) (tail_fault (xor_of (content_at line)) (behind_content line) (1 + length (content_at line)))

abbrev pub parts_at : List ℕ → SentenceParts
parts_at line = let address = take (address_len line) (content_at line) in record {
  start = slice_index line 0;
  talker = take 2 address;
  formatter = drop 2 address;
  body = drop (address_len line) (content_at line);
}

abbrev pub read_as : Option SentenceFault → SentenceParts → Result SentenceParts SentenceFault
read_as None parts = Ok parts
read_as (Some f) parts = Err f

abbrev pub read : List ℕ → Result SentenceParts SentenceFault
read line = read_as (fault_of line) (parts_at line)

-- ---- what the calls answer, in these terms

abbrev pub parts : Sentence → SentenceParts
parts s = record { start = s.start; talker = s.talker; formatter = s.formatter.now; body = s.body.now }

abbrev pub seen : Result Sentence SentenceFault → Result SentenceParts SentenceFault
seen (Ok s) = Ok (parts s)
seen (Err f) = Err f

abbrev pub fault_in : {A : Type 0} → Result A SentenceFault → Option SentenceFault
fault_in (Ok x) = None
fault_in (Err f) = Some f
