use Rattle.unit_fraction.proofs.DecimalLaws.{written_again}
use Rattle.unit_fraction.proofs.laws.written_is_read.Goals as goal

pub returns : goal.returns
returns c negative digits places small few = written_again negative digits places small few
