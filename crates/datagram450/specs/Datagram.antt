-- What a datagram of IEC 61162-450 is: the header and lines; and what its lines give, in order: of each what its TAG blocks and its
-- sentence say, or the first rule that it breaks.
use Rattle.std.specs.Prelude.{◌≡◌, ℕ, ◌+◌, ◌%◌, List, ◌++◌, drop, Result, Ok, Err, zero, suc, ◌<◌, ◌≤◌, ◌==◌, not, nat_lt, [], ◌∷◌, length, All, IsTrue, if◌then◌else◌, Some, None, slice_get}
use Rattle.report_rules.specs.Rules.{tag_form, tag_sum, no_source, sentence_form, sentence_sum, line_form, too_many_lines}
use Rattle.tag_block.specs.declared.fault.TagFault.{TagFault}
use Rattle.tag_block.specs.declared.fault.TagRule.{TagRule}
use Rattle.tag_block.specs.declared.fault.TagRule.TheVariants as tag_rules
use Rattle.tag_block.specs.Tag.{Said, IsTag, IsSaid, block_text, most_count}
use Rattle.tag_block.specs.Reading as tags
use Rattle.sentence_text.specs.declared.fault.SentenceFault.{SentenceFault}
use Rattle.sentence_text.specs.declared.fault.SentenceRule.{SentenceRule}
use Rattle.sentence_text.specs.declared.fault.SentenceRule.TheVariants as sentence_rules
use Rattle.sentence_text.specs.Sentence.{SentenceParts, IsSentence}
use Rattle.sentence_text.specs.Reading as sentences
use Rattle.datagram450.specs.declared.item.LineItem.{LineItem}
use Rattle.datagram450.specs.declared.item.LineItem.TheVariants.{Line, Bad}
use Rattle.std.specs.List.{common_prefix_len, list_all, flat_map}
use Rattle.datagram450.specs.declared.fault.DatagramFault.{DatagramFault}
use Rattle.datagram450.specs.declared.fault.DatagramFault.TheVariants.{Header, Long}
use Rattle.tag_block.specs.declared.writing.TagParts.{TagParts}
use Rattle.tag_block.specs.Writing.{block_of}

-- a line's start, what its TAG blocks say, the bytes of its sentence and the sentence's parts; or a rule and the place
-- where it is broken
pub data Item : Type 0 where
  line : ℕ → Said → List ℕ → SentenceParts → Item
  bad : ℕ → ℕ → Item

-- line is TAG blocks that say this, and then text, a sentence of these parts
pub record LineOf (said : Said) (text : List ℕ) (parts : SentenceParts) (line : List ℕ) : Type 0 where
  pub front : List ℕ
  pub tag : IsTag said front
  pub sentence : IsSentence parts text
  pub spelled : line ≡ front ++ text

abbrev pub tag_rule : TagRule → ℕ
tag_rule tag_rules.Form = tag_form
tag_rule tag_rules.Sum = tag_sum
tag_rule tag_rules.NoSource = no_source

abbrev pub sentence_rule : SentenceRule → ℕ
sentence_rule sentence_rules.Long = sentence_form
sentence_rule sentence_rules.Start = sentence_form
sentence_rule sentence_rules.Address = sentence_form
sentence_rule sentence_rules.NoSum = sentence_form
sentence_rule sentence_rules.Byte = sentence_form
sentence_rule sentence_rules.Sum = sentence_sum
sentence_rule sentence_rules.End = sentence_form

-- the sentence behind n bytes of TAG blocks of the line that begins at this place
abbrev pub with_sentence : ℕ → ℕ → Said → List ℕ → Result SentenceParts SentenceFault → Item
with_sentence at n said text (Ok parts) = line at said text parts
with_sentence at n said text (Err f) = bad (sentence_rule f.rule) (at + n + f.place)

abbrev pub with_tag : ℕ → List ℕ → Result (Said × ℕ) TagFault → Item
with_tag at bytes (Ok t) = with_sentence at t.1 t.0 (drop t.1 bytes) (sentences.read (drop t.1 bytes))
with_tag at bytes (Err f) = bad (tag_rule f.rule) (at + f.place)

-- what the line gives that begins at this place of the datagram: the place of a fault is that in the datagram
unfoldable pub item : ℕ → List ℕ → Item
item at bytes = with_tag at bytes (tags.read bytes)

-- ---- what is given, in these terms

abbrev pub item_view : LineItem → Item
item_view (Line at tag text sentence) = line at (tags.said tag) text.now (sentences.parts sentence)
item_view (Bad rule at) = bad rule at

-- ---- the lines of a datagram

-- `UdPbC` and NUL
abbrev pub header : List ℕ
header = 85 ∷ 100 ∷ 80 ∷ 98 ∷ 67 ∷ 0 ∷ []

-- the most bytes of a datagram that is read, and the most of its lines
abbrev pub longest_datagram : ℕ
longest_datagram = 1472

abbrev pub most_lines : ℕ
most_lines = 64

abbrev pub HasNoEnd : List ℕ → Type 0
HasNoEnd bytes = IsTrue (list_all (λ c. not (c == 10)) bytes)

-- a line reaches up to its only LF
pub record IsLine (bytes : List ℕ) : Type 0 where
  pub text : List ℕ
  pub inner : HasNoEnd text
  pub spelled : bytes ≡ text ++ 10 ∷ []

-- lines, and what follows the last of them
pub record Cut : Type 0 where
  pub lines : List (List ℕ)
  pub rest : List ℕ

-- the bytes of all lines
abbrev pub all_of : List (List ℕ) → List ℕ
all_of lines = flat_map (λ l. l) lines

abbrev pub cut_bytes : Cut → List ℕ
cut_bytes c = all_of c.lines ++ c.rest

-- bytes are these lines and a rest without LF
pub record IsCut (c : Cut) (bytes : List ℕ) : Type 0 where
  pub each : All IsLine c.lines
  pub last : HasNoEnd c.rest
  pub spelled : bytes ≡ cut_bytes c

-- what lines and a rest give that begin at this place, where at most so many lines may come: a rest is no line, and
-- a line too many ends the items
abbrev pub items_at : ℕ → ℕ → List (List ℕ) → List ℕ → List Item
items_at left at [] [] = []
items_at left at [] (c ∷ cs) = bad line_form at ∷ []
items_at zero at (l ∷ ls) rest = bad too_many_lines at ∷ []
items_at (suc left) at (l ∷ ls) rest = item at l ∷ items_at left (at + length l) ls rest

-- bytes is a datagram of at most 1472 bytes, and these are the items of its first 64 lines, and of a line too many or a
-- rest behind them
pub record DatagramOf (items : List Item) (bytes : List ℕ) : Type 0 where
  pub body : List ℕ
  pub cut : Cut
  pub is_cut : IsCut cut body
  pub begins : bytes ≡ header ++ body
  pub most : length bytes ≤ longest_datagram
  pub gives : items ≡ items_at most_lines 6 cut.lines cut.rest

-- what holds of an item that is a line
pub record IsLineItem (at : ℕ) (said : Said) (text : List ℕ) (parts : SentenceParts) : Type 0 where
  pub place : at < longest_datagram
  pub ranges : IsSaid said
  pub sentence : IsSentence parts text

-- and of each item: its place is in the datagram, or behind its end
abbrev pub IsItem : Item → Type 0
IsItem (line at said text parts) = IsLineItem at said text parts
IsItem (bad rule at) = at ≤ longest_datagram

-- ---- the one cut

-- a byte before the first line, or before the rest where there is none
abbrev pub before : ℕ → List (List ℕ) → List ℕ → Cut
before c [] rest = record { lines = []; rest = c ∷ rest }
before c (l ∷ ls) rest = record { lines = (c ∷ l) ∷ ls; rest = rest }

abbrev pub cut : List ℕ → Cut
cut [] = record { lines = []; rest = [] }
cut (c ∷ cs) = if c == 10 then record { lines = (c ∷ []) ∷ (cut cs).lines; rest = (cut cs).rest }
    else before c (cut cs).lines (cut cs).rest

unfoldable pub items_from : ℕ → ℕ → List ℕ → List Item
items_from left at bytes = items_at left at (cut bytes).lines (cut bytes).rest

-- the items of a datagram, or why it isn't read
abbrev pub read : List ℕ → Result (List Item) DatagramFault
read bytes = let place = common_prefix_len (λ b c. b == c) header bytes in
    if nat_lt place 6 then Err (Header place)
    else if nat_lt longest_datagram (length bytes) then Err Long
    else Ok (items_from most_lines 6 (drop 6 bytes))

-- ---- the line that is written of a TAG block and a sentence, and where it is read back

abbrev pub line_text : TagParts → List ℕ → List ℕ
line_text tag sentence = block_text (block_of tag) ++ sentence

-- the datagram of one sentence: its line is of no group, and counted on the transmission group, where so many lines were sent before
unfoldable pub sentence_datagram : List ℕ → ℕ → List ℕ → List ℕ
sentence_datagram source before sentence = header ++ line_text (record { group = None; source = source; count = before % most_count + 1 }) sentence

-- a datagram is read, and this is its item of this number, counted from 0
pub record GivesAt (result : Result (List Item) DatagramFault) (number : ℕ) (item : Item) : Type 0 where
  pub items : List Item
  pub read : result ≡ Ok items
  pub there : slice_get items number ≡ Some item

-- bytes are the header and these lines, and another line is among the first 64
pub record IsBehind (lines : List (List ℕ)) (bytes : List ℕ) : Type 0 where
  pub each : All IsLine lines
  pub few : length lines < most_lines
  pub spelled : bytes ≡ header ++ all_of lines
