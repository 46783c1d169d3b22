-- How the calls of the crates below answer for a field.
use Rattle.std.proofs.Common.{◌≡◌, ℕ, zero, suc, ◌<◌, ◌≤◌, ◌^◌, List, ◌++◌, length-append, refl, arith}
use Rattle.unit_fraction.specs.declared.decimal.Decimal.{Decimal}
use Rattle.unit_fraction.specs.Reading.{IsDecimal, part_of}
use Rattle.unit_fraction.proofs.Number.{number_small}
use Rattle.sentence_text.specs.Fields.{fields_of, field_of}
use Rattle.sentence_profile.specs.Columns.{field_at}

pub field_by_number : (body : List ℕ) (at : ℕ) → field_of body at ≡ field_at (fields_of body) at
field_by_number body zero = refl
field_by_number body (suc n) = refl

-- a decimal that is read has few digits
pub scalable : (d : Decimal) (text : List ℕ) → IsDecimal d text → (d.digits < 10 ^ 14) × (d.places ≤ 12)
scalable d text h = (omega (arith, h.value, number_small (h.whole ++ part_of h.part) h.are_digits h.few), omega (arith, h.places, h.few, length-append h.whole (part_of h.part)))
