-- The one TAG block that is written of a group, a source and a count.
use Rattle.std.specs.Prelude.{ℕ, ◌+◌, ◌/◌, ◌%◌, ◌≤◌, List, [], ◌∷◌, Option, Some, None, IfSome}
use Rattle.std.specs.Fmt.{decimal}
pub use Rattle.sentence_text.specs.Sentence.{capital_digit}
use Rattle.tag_block.specs.declared.group_part.GroupPart.{GroupPart}
use Rattle.tag_block.specs.declared.writing.TagParts.{TagParts}
use Rattle.tag_block.specs.Tag.{most_lines, most_count, Parameter, Block, content, xor_of, Said}

-- the most bytes of a block that is written, and of a datagram that is sent
abbrev pub longest_block : ℕ
longest_block = 32

abbrev pub longest_packet : ℕ
longest_packet = 512

-- the greatest code of a group that is written
abbrev pub most_written_code : ℕ
most_written_code = 99

-- a line of a group is written with a total of 2 to 9 and a code of 1 to 99
pub record IsWritableGroup (part : GroupPart) : Type 0 where
  pub first : 1 ≤ part.number
  pub within : part.number ≤ part.total
  pub several : 2 ≤ part.total
  pub most : part.total ≤ most_lines
  pub code : 1 ≤ part.code
  pub small : part.code ≤ most_written_code

-- and a line with a count of 1 to 999
pub record IsWritable (parts : TagParts) : Type 0 where
  pub group : IfSome parts.group IsWritableGroup
  pub count : 1 ≤ parts.count
  pub small : parts.count ≤ most_count

abbrev pub group_parameter : GroupPart → Parameter
group_parameter part = record { code = 103 ∷ []; value = (48 + part.number) ∷ 45 ∷ (48 + part.total) ∷ 45 ∷ decimal part.code }

abbrev pub source_parameter : List ℕ → Parameter
source_parameter source = record { code = 115 ∷ []; value = source }

abbrev pub count_parameter : ℕ → Parameter
count_parameter count = record { code = 110 ∷ []; value = decimal count }

abbrev pub summed : Parameter → List Parameter → Block
summed first others = let sum = xor_of (content first others) in
    record { first = first; others = others; high = capital_digit (sum / 16); low = capital_digit (sum % 16) }

-- the group where there is one, then the source and the count; numbers have no zeros in front
abbrev pub block_with : Option GroupPart → List ℕ → ℕ → Block
block_with None source count = summed (source_parameter source) (count_parameter count ∷ [])
block_with (Some part) source count = summed (group_parameter part) (source_parameter source ∷ count_parameter count ∷ [])

abbrev pub block_of : TagParts → Block
block_of parts = block_with parts.group parts.source parts.count

abbrev pub said_by : TagParts → Said
said_by parts = record { source = parts.source; destination = None; group = parts.group; count = Some parts.count }
