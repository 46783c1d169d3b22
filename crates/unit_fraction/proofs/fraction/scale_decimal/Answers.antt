use Rattle.std.proofs.Common.{◌≡◌, ◌*◌, ◌^◌, to_z, of_z, arith}
use mir.Syntax.{w128}
use Rattle.std.proofs.lemmas.Int.{ints}
use Rattle.unit_fraction.specs.Round.{signed}
use Rattle.unit_fraction.proofs.Nearest.{product_positive}
use Rattle.unit_fraction.proofs.Round.{is_round, is_only_round}
use Rattle.unit_fraction.proofs.fraction.scale_decimal.Goals as goal

pub returns-clause-rounds : goal.returns-clause-rounds
returns-clause-rounds c =
    let d = c.args.d.now in
    let by = 10 ^ d.places * c.args.f.den in
    let back : to_z w128 (of_z w128 c.scaled_decimal.result) ≡ c.scaled_decimal.result = omega (arith, ints) in
    rw back (is_round (signed d.negative (d.digits * c.args.f.num)) c.scaled_decimal.result by (product_positive d.places c.args.f.den c.args.f.positive) c.scaled_decimal.ensures)

pub returns-clause-only : goal.returns-clause-only
returns-clause-only c =
    let d = c.args.d.now in
    let by = 10 ^ d.places * c.args.f.den in
    let back : to_z w128 (of_z w128 c.scaled_decimal.result) ≡ c.scaled_decimal.result = omega (arith, ints) in
    rw back (is_only_round (signed d.negative (d.digits * c.args.f.num)) c.scaled_decimal.result by (product_positive d.places c.args.f.den c.args.f.positive) c.scaled_decimal.ensures)
