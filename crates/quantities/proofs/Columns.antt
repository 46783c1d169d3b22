-- What stands in the fields of a sentence: printable bytes, and no more than there is room for.
use Rattle.std.proofs.Common.{◌≡◌, ℕ, ◌<◌, ◌≤◌, zero, suc, ℤ, Bool, true, false, IsTrue, List, [], ◌∷◌, ◌++◌, length, length-append, map, refl, ap, ◌∙◌, sym, subst, arith, get_or, All}
use Rattle.std.specs.Prelude.{Option, Some, None, ◌&&◌, is_some, nat_le, unsigned_abs}
use Rattle.std.specs.List.{AllByRecursion, list_all}
use Rattle.std.proofs.lemmas.Bool.{and_parts, leb-true}
use Rattle.std.proofs.lemmas.Int.{ints}
use Rattle.std.proofs.lemmas.List.Concat.{flat_map-cons}
use Rattle.std.proofs.lemmas.List.Elements.{All-nil, All-cons}
use Rattle.readings.specs.declared.range.Range.{Range}
use Rattle.readings.specs.Ranges.{Admits, from_to}
use Rattle.sentence_text.specs.Byte.{is_field_byte}
use Rattle.sentence_text.specs.Sentence.{body_of}
use Rattle.sentence_fields.specs.declared.field.Field.{Field}
use Rattle.sentence_fields.specs.declared.field.Field.TheVariants as field
use Rattle.sentence_fields.specs.declared.written_unit.WrittenUnit.{WrittenUnit}
use Rattle.sentence_fields.specs.Field.{IsPrintable, body_text, body_width, is_sound, letter_where, text_of, width_of}
use Rattle.sentence_fields.proofs.Bodies.{field_bytes, text_fits}
use Rattle.quantities.specs.declared.column.Column.{Column as CodeColumn}
use Rattle.quantities.specs.declared.column.Column.TheVariants as code
use Rattle.quantities.specs.declared.part.Part.{Part}
use Rattle.quantities.specs.declared.part.Part.TheVariants.{Absent}
use Rattle.quantities.specs.Part.{AreIn, bounds_of}
use Rattle.quantities.specs.Layout.{Column, nothing, letter, word, decimal, course, temperature, status, above_freezing, celsius, field_by, seen, text_in, value_at}
use Rattle.quantities.specs.Sound.{bounds_at, celsius_of, column_width, columns_width, is_said_by, is_writable}

-- ---- a value in its range

admits_at : (parts : List Part) (values : List (Option ℤ)) (at : ℕ) → AreIn parts values → Admits (bounds_at parts at) (value_at values at)
admits_at [] [] at h = tt
admits_at [] (v ∷ values) zero h = subst (λ (x : Option ℤ). Admits (bounds_of Absent) x) (sym h.0) tt
admits_at [] (v ∷ values) (suc at) h = admits_at [] values at h.1
admits_at (p ∷ parts) [] at h = tt
admits_at (p ∷ parts) (v ∷ values) zero h = h.0
admits_at (p ∷ parts) (v ∷ values) (suc at) h = admits_at parts values at h.1

no_larger : (low high v : ℤ) (most : ℕ) → Admits (from_to low high) (Some v) → unsigned_abs low ≤ most → unsigned_abs high ≤ most → unsigned_abs v ≤ most
no_larger low high v most h l m = omega (arith, ints, h.0, h.1, l, m)

record Said (unit : WrittenUnit) (range : Range) : Type 0 where
  sound : IsTrue (is_sound unit)
  low : unsigned_abs range.low ≤ unit.largest
  high : unsigned_abs range.high ≤ unit.largest

said : (unit : WrittenUnit) (range : Range) → IsTrue (is_said_by unit range) → Said unit range
said unit range h =
    let low = nat_le (unsigned_abs range.low) unit.largest in
    let high = nat_le (unsigned_abs range.high) unit.largest in
    let ends = and_parts (is_sound unit && low) high h in
    let starts = and_parts (is_sound unit) low ends.0 in
    record { sound = starts.0; low = leb-true (unsigned_abs range.low) unit.largest starts.1; high = leb-true (unsigned_abs range.high) unit.largest ends.1 }

printable : (unit : WrittenUnit) (range : Range) (v : Option ℤ) → IsTrue (is_said_by unit range) → Admits range v → IsPrintable (field.Decimal v unit)
printable unit range None h inside = ((said unit range h).sound, tt)
printable unit range (Some v) h inside =
    let s = said unit range h in
    (s.sound, no_larger range.low range.high v unit.largest inside s.low s.high)

cooled : (range : Range) (v : Option ℤ) → Admits range v → Admits (celsius_of range) (above_freezing v)
cooled range None inside = tt
cooled range (Some v) inside = (omega (arith, ints, inside.0), omega (arith, ints, inside.1))

-- ---- a column

status_byte : (b : Bool) → IsTrue (is_field_byte (letter_where b 65 86))
status_byte true = refl
status_byte false = refl

decimal_printable : (parts : List Part) (values : List (Option ℤ)) (at : ℕ) (unit : WrittenUnit) → IsTrue (is_said_by unit (bounds_at parts at)) → AreIn parts values
    → IsPrintable (field.Decimal (value_at values at) unit)
decimal_printable parts values at unit h inside = printable unit (bounds_at parts at) (value_at values at) h (admits_at parts values at inside)

temperature_printable : (parts : List Part) (values : List (Option ℤ)) (at : ℕ) → IsTrue (is_said_by celsius (celsius_of (bounds_at parts at))) → AreIn parts values
    → IsPrintable (field.Decimal (above_freezing (value_at values at)) celsius)
temperature_printable parts values at h inside =
    printable celsius (celsius_of (bounds_at parts at)) (above_freezing (value_at values at)) h (cooled (bounds_at parts at) (value_at values at) (admits_at parts values at inside))

-- the text of a column has printable bytes, and at most its width
record Fits (c : Column) (text : List ℕ) : Type 0 where
  bytes : IsTrue (list_all is_field_byte text)
  short : length text ≤ column_width c

of_field : (c : Column) (f : Field) → IsPrintable f → width_of f ≡ column_width c → Fits c (text_of f)
of_field c f p w = record { bytes = field_bytes f p; short = omega (arith, text_fits f p, w) }

fits : (parts : List Part) (values : List (Option ℤ)) (c : Column) → IsTrue (is_writable parts c) → AreIn parts values → Fits c (text_in values c)
fits parts values nothing h inside = record { bytes = refl; short = omega arith }
fits parts values (letter c) h inside = of_field (letter c) (field.Letter c) h refl
fits parts values (word bytes) h inside = record { bytes = h; short = omega arith }
fits parts values (decimal at unit) h inside =
    of_field (decimal at unit) (field.Decimal (value_at values at) unit) (decimal_printable parts values at unit h inside) refl
fits parts values (course at) h inside = of_field (course at) (field.Angle (value_at values at)) tt refl
fits parts values (temperature at) h inside =
    of_field (temperature at) (field.Decimal (above_freezing (value_at values at)) celsius) (temperature_printable parts values at h inside) refl
fits parts values (status at) h inside =
    of_field (status at) (field.Letter (letter_where (is_some (value_at values at)) 65 86)) (status_byte (is_some (value_at values at))) refl

-- ---- the columns of a sentence

abbrev IsField : List ℕ → Type 0
IsField text = IsTrue (list_all is_field_byte text)

pub are_fields : (parts : List Part) (values : List (Option ℤ)) (columns : List Column) → IsTrue (list_all (is_writable parts) columns) → AreIn parts values
    → All (λ text. IsTrue (list_all is_field_byte text)) (map (text_in values) columns)
are_fields parts values [] h inside = All-nil IsField
are_fields parts values (c ∷ columns) h inside =
    let both = and_parts (is_writable parts c) (list_all (is_writable parts) columns) h in
    All-cons IsField (text_in values c) (map (text_in values) columns) ((fits parts values c both.0 inside).bytes) (are_fields parts values columns both.1 inside)

pub body_fits : (parts : List Part) (values : List (Option ℤ)) (columns : List Column) → IsTrue (list_all (is_writable parts) columns) → AreIn parts values
    → length (body_of (map (text_in values) columns)) ≤ columns_width columns
body_fits parts values [] h inside = omega arith
body_fits parts values (c ∷ columns) h inside =
    let both = and_parts (is_writable parts c) (list_all (is_writable parts) columns) h in
    let first = (fits parts values c both.0 inside).short in
    let others = body_fits parts values columns both.1 inside in
    let split : body_of (map (text_in values) (c ∷ columns)) ≡ (44 ∷ text_in values c) ++ body_of (map (text_in values) columns) = flat_map-cons (λ (text : List ℕ). 44 ∷ text) (text_in values c) (map (text_in values) columns) in
    let len = ap length split ∙ length-append (44 ∷ text_in values c) (body_of (map (text_in values) columns)) in
    omega (arith, first, others, len)

-- ---- the same of the code's columns

field_printable : (parts : List Part) (values : List (Option ℤ)) (c : CodeColumn) → IsTrue (is_writable parts (seen c)) → AreIn parts values → IsPrintable (field_by values c)
field_printable parts values code.Empty h inside = tt
field_printable parts values (code.Letter c) h inside = h
field_printable parts values (code.Word bytes) h inside = h
field_printable parts values (code.Decimal at unit) h inside = decimal_printable parts values at unit h inside
field_printable parts values (code.Course at) h inside = tt
field_printable parts values (code.Celsius at) h inside = temperature_printable parts values at h inside
field_printable parts values (code.Status at) h inside = status_byte (is_some (value_at values at))

pub fields_printable : (parts : List Part) (values : List (Option ℤ)) (columns : List CodeColumn) → IsTrue (list_all (is_writable parts) (map seen columns)) → AreIn parts values
    → AllByRecursion IsPrintable (map (field_by values) columns)
fields_printable parts values [] h inside = tt
fields_printable parts values (c ∷ columns) h inside =
    let both = and_parts (is_writable parts (seen c)) (list_all (is_writable parts) (map seen columns)) h in
    (field_printable parts values c both.0 inside, fields_printable parts values columns both.1 inside)

same_width : (values : List (Option ℤ)) (c : CodeColumn) → width_of (field_by values c) ≡ column_width (seen c)
same_width values code.Empty = refl
same_width values _ = refl

pub fields_width : (values : List (Option ℤ)) (columns : List CodeColumn) → body_width (map (field_by values) columns) ≡ columns_width (map seen columns)
fields_width values [] = refl
fields_width values (c ∷ columns) = let w = same_width values c in let ws = fields_width values columns in omega (arith, w, ws)

same_text : (values : List (Option ℤ)) (c : CodeColumn) → text_of (field_by values c) ≡ text_in values (seen c)
same_text values code.Empty = refl
same_text values _ = refl

-- what is written of the code's fields is the body of the columns' texts
pub same_body : (values : List (Option ℤ)) (columns : List CodeColumn) → body_text (map (field_by values) columns) ≡ body_of (map (text_in values) (map seen columns))
same_body values [] = refl
same_body values (c ∷ columns) =
    let texts = map (text_in values) (map seen columns) in
    ap (λ (t : List ℕ). (44 ∷ t) ++ body_text (map (field_by values) columns)) (same_text values c)
    ∙ ap (λ (b : List ℕ). (44 ∷ text_in values (seen c)) ++ b) (same_body values columns)
    ∙ sym (flat_map-cons (λ (text : List ℕ). 44 ∷ text) (text_in values (seen c)) texts)

pub printable_at : (values : List (Option ℤ)) (columns : List CodeColumn) (i : ℕ) (d : CodeColumn) → i < length columns → AllByRecursion IsPrintable (map (field_by values) columns)
    → IsPrintable (field_by values (get_or columns i d))
printable_at values [] i d inside all = absurd (omega (arith, inside))
printable_at values (c ∷ columns) zero d inside all = all.0
printable_at values (c ∷ columns) (suc i) d inside all = printable_at values columns i d (omega (arith, inside)) all.1
