use Rattle.std.proofs.Common.{arith}
use Rattle.gate_model.specs.Said.{lines_more}
use Rattle.config_values.specs.Settings.{settings_by}
use Rattle.row_traffic.proofs.Counts.{all_counted, all_small}
use Rattle.row_traffic.proofs.said.Said.counted_lines.Goals as goal

pub returns-clause-lines : goal.returns-clause-lines
returns-clause-lines c =
    let ends = c.loop-number-test.false in
    all_counted (lines_more (settings_by c.args.config.now) c.args.self.now c.args.group c.args.count) c.loop-number.lines c.loop-number.invariant.long
    (λ k below. c.loop-number.invariant.counted k (omega (arith, below, ends)))

pub returns-clause-small : goal.returns-clause-small
returns-clause-small c =
    let ends = c.loop-number-test.false in
    let long = c.loop-number.invariant.long in
    all_small c.loop-number.lines (λ k below. c.loop-number.invariant.small k (omega (arith, below, ends, long)))
