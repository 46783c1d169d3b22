use Rattle.std.proofs.Common.{FitsSigned, rules}
use Rattle.std.specs.Int.{w128}
use Rattle.ais_report.proofs.MinuteLemmas.{narrow, value_within}
use Rattle.ais_report.proofs.quantity.minutes.Goals as goal

pub returns : goal.returns
returns c =
    let fits : FitsSigned w128 c.scale.result = search rules in
    record { value = narrow c.args.value c.scale.result c.ranges.value fits c.scale.ensures.value (value_within c.args.value c.requires) }
