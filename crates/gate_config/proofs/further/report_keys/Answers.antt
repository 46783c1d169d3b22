use Rattle.gate_config.specs.Keys.{report}
use Rattle.gate_config.proofs.further.report_keys.Goals as goal

pub returns : goal.returns
unfolding report
returns c = rw (c.in_ok-table.ensures, ← c.in_ok-sources.ensures, ← c.in_ok-address.ensures)
