use Rattle.std.proofs.Common.{◌≡◌, pos, ◌*ℤ◌, w64, to_z, of_z, arith}
use mir.Syntax.{w128}
use Rattle.std.proofs.lemmas.Int.{ints}
use Rattle.unit_fraction.specs.Round.{round}
use Rattle.unit_fraction.proofs.Round.{is_round, is_only_round}
use Rattle.unit_fraction.proofs.fraction.scale.Goals as goal

pub returns-clause-rounds : goal.returns-clause-rounds
returns-clause-rounds c =
    let back : to_z w128 (of_z w128 c.scaled.result) ≡ c.scaled.result = omega (arith, ints) in
    let taken : to_z w64 (of_z w64 c.args.raw) ≡ c.args.raw = omega (arith, ints) in
    let is : c.scaled.result ≡ round (c.args.raw *ℤ pos c.args.f.num) c.args.f.den = rw taken at c.scaled.ensures in
    rw back (is_round (c.args.raw *ℤ pos c.args.f.num) c.scaled.result c.args.f.den c.args.f.positive is)

pub returns-clause-only : goal.returns-clause-only
returns-clause-only c =
    let back : to_z w128 (of_z w128 c.scaled.result) ≡ c.scaled.result = omega (arith, ints) in
    let taken : to_z w64 (of_z w64 c.args.raw) ≡ c.args.raw = omega (arith, ints) in
    let is : c.scaled.result ≡ round (c.args.raw *ℤ pos c.args.f.num) c.args.f.den = rw taken at c.scaled.ensures in
    rw back (is_only_round (c.args.raw *ℤ pos c.args.f.num) c.scaled.result c.args.f.den c.args.f.positive is)
