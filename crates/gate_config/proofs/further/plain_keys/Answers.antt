use Rattle.std.proofs.Common.{sym}
use Rattle.gate_config.specs.Keys.{plain}
use Rattle.gate_config.proofs.Tables.{alone}
use Rattle.gate_config.proofs.further.plain_keys.Goals as goal

pub returns-clause-said : goal.returns-clause-said
unfolding plain
returns-clause-said c = rw (c.in_ok-table.ensures, ← c.stands_at.ensures, ← c.own_group.ensures.said) (sym (alone c.own_group.result))
