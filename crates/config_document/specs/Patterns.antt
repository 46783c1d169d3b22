-- A choice of devices by the fields of their NAMEs (ISO 11783-5), as a text.
use Rattle.std.specs.Prelude.{ℕ, ◌+◌, ◌^◌, ◌<◌, Bool, ◌&&◌, ◌==◌, nat_eq, nat_le, nat_lt, List, length, take, drop, codes, Option, Some, None, option_map, if◌then◌else◌}
use Rattle.std.specs.Cmp.Lexicographic.{pointwise}
use Rattle.std.specs.List.{list_all, position, position_or_len}
use Rattle.std.specs.Option.{ForSome}
use Rattle.n2k_id.specs.declared.name.Name.{Name}
use Rattle.n2k_id.specs.declared.pattern.Pattern.{Pattern}
use Rattle.n2k_id.specs.Name.{fields_of, stating}
use Rattle.sentence_text.specs.Byte.{is_digit}
use Rattle.unit_fraction.specs.Digits.{number}
use Rattle.config_document.specs.Texts.{name_in}
use Rattle.config_document.specs.declared.pattern.Words as code
use Rattle.config_document.specs.declared.pattern.Words.TheVariants as words

-- 1 to 7 decimal digits, leading zeros among them, of a number that has no more bits
unfoldable pub number_in : ℕ → List ℕ → Option ℕ
number_in width digits =
    if (nat_lt 0 (length digits) && nat_le (length digits) 7) && (list_all is_digit digits && nat_lt (number digits) (2 ^ width)) then Some (number digits) else None

abbrev pub is_space : ℕ → Bool
is_space c = c == 32

-- the first of the words, which single spaces divide, and the words behind it
abbrev pub word : List ℕ → List ℕ
word text = take (position_or_len is_space text) text

abbrev pub behind : List ℕ → Option (List ℕ)
behind text = option_map (λ i. drop (i + 1) text) (position is_space text)

-- the text begins so
abbrev pub begins : List ℕ → List ℕ → Bool
begins start text = pointwise nat_eq (take (length start) text) start

-- what is left of the words: those behind what was read, or none behind the last word; and nothing at all once a word was wrong
abbrev pub Words : Type 0
Words = Option (Option (List ℕ))

-- what code sees as such words
abbrev pub words_seen : code.Words → Words
words_seen (words.Left text) = Some (Some text.now)
words_seen words.Ended = Some None
words_seen words.Wrong = None

abbrev counted : Option ℕ → Option (List ℕ) → Option ℕ × Words
counted None rest = (None, None)
counted (Some number) rest = (Some number, Some rest)

-- what the first of the words states of a field of so many bits, and the words behind it; nothing, and all words, where it is about another field
unfoldable pub stated : List ℕ → ℕ → Words → Option ℕ × Words
stated field width None = (None, None)
stated field width (Some None) = (None, Some None)
stated field width (Some (Some text)) =
    if begins field (word text) then counted (number_in width (drop (length field) (word text))) (behind text) else (None, Some (Some text))

-- no word is left, and none was wrong
abbrev pub ended : Words → Pattern → Option Pattern
ended None pattern = None
ended (Some None) pattern = Some pattern
ended (Some (Some text)) pattern = None

-- the fields in the order in which they stand in a NAME, each stated once or not at all
unfoldable pub stating_in : List ℕ → Option Pattern
stating_in text =
    let unique = stated (codes "unique=") 21 (Some (Some text)) in
    let manufacturer = stated (codes "manufacturer=") 11 unique.1 in
    let instance_lower = stated (codes "instance_lower=") 3 manufacturer.1 in
    let instance_upper = stated (codes "instance_upper=") 5 instance_lower.1 in
    let function = stated (codes "function=") 8 instance_upper.1 in
    let reserved = stated (codes "reserved=") 1 function.1 in
    let class = stated (codes "class=") 7 reserved.1 in
    let system_instance = stated (codes "system_instance=") 4 class.1 in
    let industry = stated (codes "industry=") 3 system_instance.1 in
    let arbitrary = stated (codes "arbitrary=") 1 industry.1 in
    ended arbitrary.1 (record {
      unique = unique.0;
      manufacturer = manufacturer.0;
      instance_lower = instance_lower.0;
      instance_upper = instance_upper.0;
      function = function.0;
      reserved = reserved.0;
      class = class.0;
      system_instance = system_instance.0;
      industry = industry.0;
      arbitrary = option_map (λ n. n == 1) arbitrary.0;
    })

abbrev whole_or : Option Name → Option Pattern → Option Pattern
whole_or None other = other
whole_or (Some name) other = Some (stating (fields_of name.0))

-- the digits of one NAME, or fields that are stated
abbrev pub pattern_in : List ℕ → Option Pattern
pattern_in text = whole_or (name_in text) (stating_in text)

-- each value that is stated fits its field
abbrev pub Fits : ℕ → Option ℕ → Type 0
Fits width value = ForSome value (λ n. n < 2 ^ width)

pub record IsStated (p : Pattern) : Type 0 where
  pub unique : Fits 21 p.unique
  pub manufacturer : Fits 11 p.manufacturer
  pub instance_lower : Fits 3 p.instance_lower
  pub instance_upper : Fits 5 p.instance_upper
  pub reserved : Fits 1 p.reserved
  pub class : Fits 7 p.class
  pub system_instance : Fits 4 p.system_instance
  pub industry : Fits 3 p.industry
