-- What TAG blocks of IEC 61162-450 are, as a relation between what they say and all of their bytes.
use Rattle.std.specs.Prelude.{ℕ, Bool, ◌&&◌, ◌||◌, ◌==◌, not, nat_le, ◌≡◌, ◌+◌, ◌-◌, ◌*◌, ◌≤◌, List, ◌∷◌, length, IsTrue, ◌<◌, ◌≢◌, [], ◌++◌, take, drop, slice_index, All, Option, Some, None, IfSome, if◌then◌else◌}
use Rattle.sentence_text.specs.Byte.{is_digit}
use Rattle.std.specs.List.{fold, list_all, flat_map}
use Rattle.tag_block.specs.declared.group_part.GroupPart.{GroupPart}
use Rattle.std.specs.Char.{digit_value}
use Rattle.sentence_text.specs.Names.{IsSfi}
pub use Rattle.sentence_text.specs.Sentence.{xor_of}

-- a letter of either case, or a digit
abbrev pub is_code_byte : ℕ → Bool
is_code_byte c = is_digit c || (nat_le 65 c && nat_le c 90) || (nat_le 97 c && nat_le c 122)

-- printable, but for the comma between parameters, `*` and `\`
abbrev pub is_value_byte : ℕ → Bool
is_value_byte c = nat_le 32 c && nat_le c 126 && not (c == 44 || c == 42 || c == 92)

-- ---- the numbers in their values

-- the number that decimal digits write
abbrev pub number : List ℕ → ℕ
number digits = fold (λ n c. n * 10 + (c - 48)) 0 digits

-- one digit or more, at most so many
pub record IsNumber (most : ℕ) (n : ℕ) (text : List ℕ) : Type 0 where
  pub some : 1 ≤ length text
  pub few : length text ≤ most
  pub digits : IsTrue (list_all is_digit text)
  pub value : n ≡ number text

-- the greatest code of a group, of four digits, and the greatest count of a line, of three
abbrev pub most_code : ℕ
most_code = 9999

abbrev pub most_count : ℕ
most_count = 999

-- the most lines of a group
abbrev pub most_lines : ℕ
most_lines = 9

-- number, total and code of a group, divided by `-`: `1-2-34`
pub record IsGroupText (part : GroupPart) (text : List ℕ) : Type 0 where
  pub digits : List ℕ
  pub spelled : text ≡ (48 + part.number) ∷ 45 ∷ (48 + part.total) ∷ 45 ∷ digits
  pub first : 1 ≤ part.number
  pub within : part.number ≤ part.total
  pub most : part.total ≤ most_lines
  pub code : IsNumber 4 part.code digits
  pub positive : 1 ≤ part.code

-- what holds of each group that is read
pub record IsGroupRead (part : GroupPart) : Type 0 where
  pub first : 1 ≤ part.number
  pub within : part.number ≤ part.total
  pub most : part.total ≤ most_lines
  pub positive : 1 ≤ part.code
  pub small : part.code ≤ most_code

-- ---- the blocks

-- a code, `:` and a value
pub record Parameter : Type 0 where
  pub code : List ℕ
  pub value : List ℕ

pub record IsParameter (p : Parameter) : Type 0 where
  pub some : 1 ≤ length p.code
  pub code : IsTrue (list_all is_code_byte p.code)
  pub value : IsTrue (list_all is_value_byte p.value)

abbrev pub parameter_text : Parameter → List ℕ
parameter_text p = p.code ++ 58 ∷ p.value

-- the first parameter, and the others each behind a comma
abbrev pub content : Parameter → List Parameter → List ℕ
content first others = parameter_text first ++ flat_map (λ p. 44 ∷ parameter_text p) others

-- the parameters and the two digits of the sum
pub record Block : Type 0 where
  pub first : Parameter
  pub others : List Parameter
  pub high : ℕ
  pub low : ℕ

-- the sum goes over the bytes between the first `\` and `*`; its digits are of either case
pub record IsBlock (b : Block) : Type 0 where
  pub first : IsParameter b.first
  pub others : All IsParameter b.others
  pub high_digit : digit_value b.high < 16
  pub low_digit : digit_value b.low < 16
  pub sum : digit_value b.high * 16 + digit_value b.low ≡ xor_of (content b.first b.others)

abbrev pub block_text : Block → List ℕ
block_text b = 92 ∷ (content b.first b.others ++ 42 ∷ b.high ∷ b.low ∷ 92 ∷ [])

-- the values of the four codes that say something here
pub record Standing : Type 0 where
  pub source : Option (List ℕ)
  pub destination : Option (List ℕ)
  pub group : Option (List ℕ)
  pub count : Option (List ℕ)

abbrev pub nothing : Standing
nothing = record { source = None; destination = None; group = None; count = None }

abbrev pub is_code : ℕ → List ℕ → Bool
is_code c code = length code == 1 && slice_index code 0 == c

-- a parameter takes the place of what its code said before; other codes are passed over
abbrev pub stands : Standing → Parameter → Standing
stands v p = if is_code 115 p.code then record v { source = Some p.value }
    else if is_code 100 p.code then record v { destination = Some p.value }
    else if is_code 103 p.code then record v { group = Some p.value }
    else if is_code 110 p.code then record v { count = Some p.value }
    else v

abbrev pub parameters : Block → List Parameter
parameters b = b.first ∷ b.others

abbrev pub standing : List Block → Standing
standing blocks = fold stands nothing (flat_map parameters blocks)

-- what a line's blocks say, without where it lies in memory
pub record Said : Type 0 where
  pub source : List ℕ
  pub destination : Option (List ℕ)
  pub group : Option GroupPart
  pub count : Option ℕ

abbrev pub IsGroupOf : Option (List ℕ) → Option GroupPart → Type 0
IsGroupOf None group = group ≡ None
IsGroupOf (Some text) group = (part : GroupPart) × (group ≡ Some part) × IsGroupText part text

abbrev pub IsCountOf : Option (List ℕ) → Option ℕ → Type 0
IsCountOf None count = count ≡ None
IsCountOf (Some text) count = (n : ℕ) × (count ≡ Some n) × IsNumber 3 n text

-- bytes are TAG blocks that say this
pub record IsTag (said : Said) (bytes : List ℕ) : Type 0 where
  pub blocks : List Block
  pub some : 1 ≤ length blocks
  pub each : All IsBlock blocks
  pub spelled : bytes ≡ flat_map block_text blocks
  pub source : (standing blocks).source ≡ Some said.source
  pub is_sfi : IsSfi said.source
  pub destination : said.destination ≡ (standing blocks).destination
  pub group : IsGroupOf (standing blocks).group said.group
  pub count : IsCountOf (standing blocks).count said.count

-- what follows isn't `\`
abbrev pub BeginsNoBlock : List ℕ → Type 0
BeginsNoBlock rest = slice_index rest 0 ≢ 92

-- the first n bytes of the line are TAG blocks that say this, and no more follow
pub record Fronts (line : List ℕ) (said : Said) (n : ℕ) : Type 0 where
  pub within : n ≤ length line
  pub is : IsTag said (take n line)
  pub stops : BeginsNoBlock (drop n line)

-- what holds of all that blocks can say
pub record IsSaid (said : Said) : Type 0 where
  pub source : IsSfi said.source
  pub group : IfSome said.group IsGroupRead
  pub count : IfSome said.count (λ n. n ≤ most_count)
