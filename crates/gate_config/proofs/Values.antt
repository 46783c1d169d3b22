-- What is read of a value is valid where it is configured.
use Rattle.std.proofs.Common.{ℕ, zero, suc, ◌<◌, Bool, nat_le, IsTrue, List, [], ◌∷◌, length, get_or, All, arith}
use Rattle.std.specs.Int.{IsInRange}
use Rattle.std.specs.List.{list_all}
use Rattle.std.proofs.lemmas.Bool.{and_parts, leb-true}
use Rattle.sentence_text.specs.Byte.{is_capital}
use Rattle.n2k_id.specs.declared.pattern.Pattern.{Pattern}
use Rattle.config_document.specs.Patterns.{IsStated}
use Rattle.config_document.specs.Texts.{IsProductText, is_printable}
use Rattle.config_document.specs.Texts.{IsTalker as IsTalkerRead}
use Rattle.config_values.specs.Patterns.{IsPattern}
use Rattle.config_values.specs.Rows.{IsTalker}
use Rattle.settings.specs.Settings.{IsText}

test_at : {A : Type 0} (test : A → Bool) (xs : List A) (i : ℕ) (d : A) → IsTrue (list_all test xs) → i < length xs → IsTrue (test (get_or xs i d))
test_at test [] i d all within = absurd (omega arith)
test_at test (x ∷ xs) zero d all within = (and_parts (test x) (list_all test xs) all).0
test_at test (x ∷ xs) (suc i) d all within = test_at test xs i d (and_parts (test x) (list_all test xs) all).1 (omega arith)

pub talker : (text : List ℕ) → IsTalkerRead text → IsTalker text
talker text read = record { len = read.len; letters = λ k d within. test_at is_capital text k d read.letters within }

pattern : (p : Pattern) → IsStated p → IsPattern p
pattern p read = record {
  unique = read.unique;
  manufacturer = read.manufacturer;
  instance_lower = read.instance_lower;
  instance_upper = read.instance_upper;
  reserved = read.reserved;
  class = read.class;
  system_instance = read.system_instance;
  industry = read.industry;
}

pub patterns : (ps : List Pattern) → All IsStated ps → All IsPattern ps
patterns ps read = λ k d within. pattern (get_or ps k d) (read k d within)

printable : (byte : ℕ) → IsTrue (is_printable byte) → IsInRange 32 126 byte
printable byte test =
    let both = and_parts (nat_le 32 byte) (nat_le byte 126) test in
    (leb-true 32 byte both.0, leb-true byte 126 both.1)

pub product_text : (text : List ℕ) → IsProductText text → IsText text
product_text text read = record { fits = read.fits; printable = λ k d within. printable (get_or text k d) (test_at is_printable text k d read.printable within) }
