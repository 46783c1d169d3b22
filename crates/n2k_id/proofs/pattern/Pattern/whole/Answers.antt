use Rattle.std.proofs.Common.{◌^◌, ◌<◌, arith}
use Rattle.n2k_id.proofs.PatternLemmas.{stating_alone}
use Rattle.n2k_id.proofs.pattern.Pattern.whole.Goals as goal

pub returns-clause-alone : goal.returns-clause-alone
returns-clause-alone c = λ other fits.
    let in_range : c.args.name.0 < 2 ^ 64 = omega arith in
    rw (c.state.ensures, c.fields.ensures.fields) (stating_alone c.args.name.0 other in_range fits)
