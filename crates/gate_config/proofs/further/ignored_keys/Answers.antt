use Rattle.std.proofs.Common.{sym}
use Rattle.gate_config.specs.Keys.{ignored}
use Rattle.gate_config.proofs.Tables.{alone}
use Rattle.gate_config.proofs.further.ignored_keys.Goals as goal

pub returns-clause-said : goal.returns-clause-said
unfolding ignored
returns-clause-said c = rw (c.in_ok-table.ensures, ← c.devices.ensures.said) (sym (alone c.devices.result))
