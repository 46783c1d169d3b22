use Rattle.std.proofs.Common.{sym}
use Rattle.gate_config.specs.Keys.{serve}
use Rattle.gate_config.proofs.Tables.{alone}
use Rattle.gate_config.proofs.further.serve_keys.Goals as goal

pub returns : goal.returns
unfolding serve
returns c = rw (c.in_ok-table.ensures, ← c.truth_or.ensures) (sym (alone c.truth_or.result))
