use Rattle.gate_config.specs.Keys.{quantities_in}
use Rattle.gate_config.proofs.Tables.{further_name}
use Rattle.gate_config.proofs.further_quantities.further_quantities.Goals as goal

pub returns-in-None-clause-said : goal.returns-in-None-clause-said
unfolding quantities_in
returns-in-None-clause-said c =
    rw (further_name, c.in_ok-table.ensures, ← c.in_ok-group.ensures.said, ← c.in_ok-each.ensures.said, c.in-None.is)

pub returns-in-Some-clause-said : goal.returns-in-Some-clause-said
unfolding quantities_in
returns-in-Some-clause-said c =
    rw (further_name, c.in_ok-table.ensures, ← c.in_ok-group.ensures.said, ← c.in_ok-each.ensures.said, c.in-Some.is)
