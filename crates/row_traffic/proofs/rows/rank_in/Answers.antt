use Rattle.std.proofs.Common.{ap, ◌∙◌}
use Rattle.history.specs.Choice.{rank_of}
use Rattle.row_traffic.proofs.rows.rank_in.Goals as goal

pub returns : goal.returns
returns c =
    (rw (c.deref.ensures.0, c.deref-2.ensures.0) at c.rank_of.ensures) ∙ ap (λ rule. rank_of rule c.args.name.0) c.row_config-row.ensures.rule
