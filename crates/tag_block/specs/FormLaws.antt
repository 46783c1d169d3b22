-- How far the bytes of a line can still begin TAG blocks of IEC 61162-450, whatever their sums are and their values say.
use Rattle.std.specs.Prelude.{◌≡◌, ◌⊎◌, ℕ, ◌+◌, ◌<◌, ◌≤◌, List, ◌∷◌, ◌++◌, length, take, slice_index, false, All, Some, Err, IsTrue}
use Rattle.std.specs.List.{flat_map, list_all}
use Rattle.std.specs.Char.{digit_value}
use Rattle.tag_block.specs.declared.group_part.GroupPart.{GroupPart}
use Rattle.tag_block.specs.declared.fault.TagRule.TheVariants as rules
use Rattle.tag_block.specs.Tag.{is_value_byte, IsParameter, Block, IsBlock, block_text, standing, BeginsNoBlock, IsNumber, IsGroupText}
use Rattle.tag_block.specs.Reading.{read}

-- a block whose two digits may write any sum
pub record HasForm (b : Block) : Type 0 where
  pub first : IsParameter b.first
  pub others : All IsParameter b.others
  pub high_digit : digit_value b.high < 16
  pub low_digit : digit_value b.low < 16

-- the bytes are one block of this form or more
pub record AreSpelled (bytes : List ℕ) : Type 0 where
  pub blocks : List Block
  pub some : 1 ≤ length blocks
  pub each : All HasForm blocks
  pub spelled : bytes ≡ flat_map block_text blocks

-- some bytes behind these make blocks of them
pub record Begins (front : List ℕ) : Type 0 where
  pub tail : List ℕ
  pub whole : AreSpelled (front ++ tail)

-- the bytes before the place begin blocks, and with the byte there, where the line has one, they begin none
pub record EndsAt (line : List ℕ) (place : ℕ) : Type 0 where
  pub before : Begins (take place line)
  pub with_it : place < length line → Begins (take (place + 1) line) → ⊥

-- ---- the values of whole blocks

-- these blocks, with their sums, are the front of the line, and no more follow
pub record AreFront (line : List ℕ) (blocks : List Block) : Type 0 where
  pub each : All IsBlock blocks
  pub rest : List ℕ
  pub spelled : line ≡ flat_map block_text blocks ++ rest
  pub stops : BeginsNoBlock rest

-- at the place stands the whole value of a parameter with this code of one byte, behind the `\` or the comma before it
pub record StandsAt (line : List ℕ) (code : ℕ) (value : List ℕ) (place : ℕ) : Type 0 where
  pub front : List ℕ
  pub divider : ℕ
  pub rest : List ℕ
  pub spelled : line ≡ front ++ divider ∷ code ∷ 58 ∷ (value ++ rest)
  pub place_is : place ≡ length front + 3
  pub divides : (divider ≡ 92) ⊎ (divider ≡ 44)
  pub passes : IsTrue (list_all is_value_byte value)
  pub stops : is_value_byte (slice_index rest 0) ≡ false

-- the value of the last `g` is no group
pub record HasNoGroupAt (line : List ℕ) (place : ℕ) : Type 0 where
  pub blocks : List Block
  pub are : AreFront line blocks
  pub value : List ℕ
  pub last : (standing blocks).group ≡ Some value
  pub is_none : (part : GroupPart) → IsGroupText part value → ⊥
  pub stands : StandsAt line 103 value place

-- the value of the last `n` is no count
pub record HasNoCountAt (line : List ℕ) (place : ℕ) : Type 0 where
  pub blocks : List Block
  pub are : AreFront line blocks
  pub value : List ℕ
  pub last : (standing blocks).count ≡ Some value
  pub is_none : (n : ℕ) → IsNumber 3 n value → ⊥
  pub stands : StandsAt line 110 value place

-- the place of a fault of form is where no blocks go on, or where a group or a count stands that is none
abbrev pub FormFaultsTell : Type 0
FormFaultsTell = (line : List ℕ) (place : ℕ) → read line ≡ Err (record { rule = rules.Form; place = place })
    → EndsAt line place ⊎ (HasNoGroupAt line place ⊎ HasNoCountAt line place)
