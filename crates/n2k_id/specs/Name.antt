-- NAMEs (ISO 11783-5): the fields of one, its bytes, and the patterns that match it.
use Rattle.std.specs.Prelude.{ℕ, ◌+◌, ◌*◌, ◌/◌, ◌%◌, ◌^◌, ◌<◌, List, [], ◌∷◌, ◌≡◌, ◌==◌, Bool, take, if◌then◌else◌, nat_eq, ◌&&◌, true, Option, None, Some}
use Rattle.std.specs.Int.{from_le_bytes, to_le_bytes, w64}
use Rattle.n2k_id.specs.declared.name.NameFields.{NameFields}
use Rattle.std.specs.Bool.{beq}
use Rattle.std.specs.Option.{ForSome}
use Rattle.n2k_id.specs.declared.pattern.Pattern.{Pattern}

-- A number of several fields, each of so many bits, from bit 0 on.

-- the fields of a number
abbrev pub cut : List ℕ → ℕ → List ℕ
cut [] n = []
cut (w ∷ ws) n = n % 2 ^ w ∷ cut ws (n / 2 ^ w)

-- the number of these fields
abbrev pub number_of : List ℕ → List ℕ → ℕ
number_of [] xs = 0
number_of (w ∷ ws) [] = 0
number_of (w ∷ ws) (x ∷ xs) = number_of ws xs * 2 ^ w + x

-- there is one field for each width, and it fits
abbrev pub FitEach : List ℕ → List ℕ → Type 0
FitEach [] [] = Unit {0}
FitEach [] (x ∷ xs) = ⊥
FitEach (w ∷ ws) [] = ⊥
FitEach (w ∷ ws) (x ∷ xs) = (x < 2 ^ w) × FitEach ws xs

-- The fields of a NAME from bit 0 on, with their widths in bits (ISO 11783-5): unique number (21),
-- manufacturer (11), lower (3) and upper (5) device instance, function (8), reserved (1), device
-- class (7), system instance (4), industry group (3), arbitrary address capable (1).
unfoldable pub widths : List ℕ
widths = 21 ∷ 11 ∷ 3 ∷ 5 ∷ 8 ∷ 1 ∷ 7 ∷ 4 ∷ 3 ∷ 1 ∷ []

-- 1 for true, 0 for false
abbrev pub bit_of : Bool → ℕ
bit_of b = if b then 1 else 0

-- the fields' values, in the order of `widths`
unfoldable pub values : NameFields → List ℕ
values f =
    f.unique ∷ f.manufacturer ∷ f.instance_lower ∷ f.instance_upper ∷ f.function ∷ f.reserved ∷ f.class ∷ f.system_instance ∷ f.industry ∷ bit_of f.arbitrary ∷ []

-- so many bits of a number, from this bit on
unfoldable pub bits_at : ℕ → ℕ → ℕ → ℕ
bits_at low width n = n / 2 ^ low % 2 ^ width

-- arbitrary address capable: the device may move to another address
unfoldable pub is_arbitrary : ℕ → Bool
is_arbitrary name = bits_at 63 1 name == 1

-- the fields of a NAME
unfoldable pub fields_of : ℕ → NameFields
fields_of name = record {
  unique = bits_at 0 21 name;
  manufacturer = bits_at 21 11 name;
  instance_lower = bits_at 32 3 name;
  instance_upper = bits_at 35 5 name;
  function = bits_at 40 8 name;
  reserved = bits_at 48 1 name;
  class = bits_at 49 7 name;
  system_instance = bits_at 56 4 name;
  industry = bits_at 60 3 name;
  arbitrary = is_arbitrary name;
}

-- the NAME consists of these fields
pub record IsMadeOf (name : ℕ) (f : NameFields) : Type 0 where
  pub fit : FitEach widths (values f)
  pub number : name ≡ number_of widths (values f)

-- the bytes of a NAME, low byte first
unfoldable pub name_bytes : ℕ → List ℕ
name_bytes name = to_le_bytes w64 name

-- the NAME in the first 8 bytes
unfoldable pub name_at : List ℕ → ℕ
name_at bytes = from_le_bytes w64 (take 8 bytes)

-- a value that isn't stated, or is this one
abbrev pub allows : {A : Type 0} → (A → A → Bool) → Option A → A → Bool
allows eq None x = true
allows eq (Some v) x = eq v x

-- each stated field has its value
unfoldable pub matches_fields : Pattern → NameFields → Bool
matches_fields p f =
    allows nat_eq p.unique f.unique && allows nat_eq p.manufacturer f.manufacturer && allows nat_eq p.instance_lower f.instance_lower && allows nat_eq p.instance_upper f.instance_upper && allows nat_eq p.function f.function && allows nat_eq p.reserved f.reserved && allows nat_eq p.class f.class && allows nat_eq p.system_instance f.system_instance && allows nat_eq p.industry f.industry && allows beq p.arbitrary f.arbitrary

-- each stated field has that value in the NAME
unfoldable pub matches : Pattern → ℕ → Bool
matches p name = matches_fields p (fields_of name)

-- the same as a fact, field by field
pub record Matches (p : Pattern) (f : NameFields) : Type 0 where
  pub unique : ForSome p.unique (λ v. f.unique ≡ v)
  pub manufacturer : ForSome p.manufacturer (λ v. f.manufacturer ≡ v)
  pub instance_lower : ForSome p.instance_lower (λ v. f.instance_lower ≡ v)
  pub instance_upper : ForSome p.instance_upper (λ v. f.instance_upper ≡ v)
  pub function : ForSome p.function (λ v. f.function ≡ v)
  pub reserved : ForSome p.reserved (λ v. f.reserved ≡ v)
  pub class : ForSome p.class (λ v. f.class ≡ v)
  pub system_instance : ForSome p.system_instance (λ v. f.system_instance ≡ v)
  pub industry : ForSome p.industry (λ v. f.industry ≡ v)
  pub arbitrary : ForSome p.arbitrary (λ v. f.arbitrary ≡ v)

-- the pattern that states all ten fields
unfoldable pub stating : NameFields → Pattern
stating f = record {
  unique = Some f.unique;
  manufacturer = Some f.manufacturer;
  instance_lower = Some f.instance_lower;
  instance_upper = Some f.instance_upper;
  function = Some f.function;
  reserved = Some f.reserved;
  class = Some f.class;
  system_instance = Some f.system_instance;
  industry = Some f.industry;
  arbitrary = Some f.arbitrary;
}
