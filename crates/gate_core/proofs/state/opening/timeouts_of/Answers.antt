use Rattle.std.proofs.Common.{arith}
use Rattle.history.specs.Settings.{rule_at}
use Rattle.config_values.specs.Settings.{settings_by}
use Rattle.row_traffic.proofs.Counts.{all_counted}
use Rattle.gate_core.proofs.state.opening.timeouts_of.Goals as goal

pub returns : goal.returns
returns c =
    let ends = c.loop-row-test.false in
    all_counted (λ number. (rule_at (settings_by c.args.config.now).rows number).timeout) c.loop-row.timeouts c.loop-row.invariant.long
    (λ k below. c.loop-row.invariant.taken k (omega (arith, below, ends)))
