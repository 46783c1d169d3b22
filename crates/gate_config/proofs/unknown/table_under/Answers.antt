use Rattle.toml.specs.View.{view}
use Rattle.gate_config.proofs.Tables.{table_seen}
use Rattle.gate_config.proofs.unknown.table_under.Goals as goal

pub returns-in-Some : goal.returns-in-Some
returns-in-Some c = rw (table_seen (view c.in-Some.value.now) c.as_table.result c.as_table.ensures, ← c.in-Some.ensures)
