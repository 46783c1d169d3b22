use Rattle.std.proofs.Common.{sym, ◌∙◌}
use Rattle.gate_config.proofs.Beside.{group_beside}
use Rattle.gate_config.proofs.parts.is_taken.Goals as goal

pub returns-else-have_group-clause-free : goal.returns-else-have_group-clause-free
returns-else-have_group-clause-free c free =
    group_beside c.args.rows.now c.args.parts.now c.args.group (sym c.if-have_group.ensures) (sym c.have_part.ensures ∙ free)

pub returns-else-have_group-clause-value : goal.returns-else-have_group-clause-value
returns-else-have_group-clause-value c = rw (← c.if-have_group.ensures) c.have_part.ensures
