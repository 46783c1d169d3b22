use Rattle.config_values.proofs.PresetLemmas.{opens_table}
use Rattle.config_values.proofs.laws.tables_open.Goals as goal

pub returns : goal.returns
returns c = opens_table
