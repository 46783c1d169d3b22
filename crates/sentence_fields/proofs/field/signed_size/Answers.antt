-- A counted value has no more digits than its conversion says.
use Rattle.std.proofs.Common.{◌≡◌, ℕ, ℤ, w64, to_z, of_z, ap, ◌∙◌, FitsSigned, rules, arith}
use Rattle.std.proofs.lemmas.Int.{to_z-of_z}
use Rattle.std.specs.Int.{w128}
use Rattle.std.specs.Prelude.{unsigned_abs}
use Rattle.sentence_fields.specs.declared.written_unit.WrittenUnit.{WrittenUnit}
use Rattle.sentence_fields.specs.Field.{count}
use Rattle.sentence_fields.proofs.Bodies.{count_below, count_fits}
use Rattle.sentence_fields.proofs.field.signed_size.Goals as goal

-- what is counted without its sign
of_count : (unit : WrittenUnit) (raw : ℤ) (counted : ℤ) (size : ℕ) → FitsSigned w64 raw → FitsSigned w128 counted → counted ≡ count unit (to_z w64 (of_z w64 raw))
    → size ≡ unsigned_abs (to_z w128 (of_z w128 counted)) → size ≡ unsigned_abs (count unit raw)
of_count unit raw counted size small fits is value =
    value ∙ ap unsigned_abs (to_z-of_z w128 counted fits ∙ is ∙ ap (count unit) (to_z-of_z w64 raw small))

pub overflow_cast-result : goal.overflow_cast-result
overflow_cast-result c =
    let fits : FitsSigned w128 c.count-counted.result = search rules in
    let size = of_count c.args.unit c.args.raw c.count-counted.result c.unsigned_abs.result c.ranges.raw fits c.count-counted.ensures c.unsigned_abs.ensures.value in
    let small = count_fits c.args.unit c.args.raw c.requires.sound c.requires.counted in
    omega (arith, size, small)

pub returns-clause-small : goal.returns-clause-small
returns-clause-small c =
    let fits : FitsSigned w128 c.count-counted.result = search rules in
    let size = of_count c.args.unit c.args.raw c.count-counted.result c.unsigned_abs.result c.ranges.raw fits c.count-counted.ensures c.unsigned_abs.ensures.value in
    let small = count_below c.args.unit c.args.raw c.requires.sound c.requires.counted in
    omega (arith, size, small)
