use Rattle.gate_model.proofs.SaidFits.{counts_fit, lines_fit, readings_fit}
use Rattle.gate_model.proofs.said.datagrams_can_be_written.Goals as goal

pub returns-clause-counts : goal.returns-clause-counts
returns-clause-counts c = counts_fit

pub returns-clause-lines : goal.returns-clause-lines
returns-clause-lines c = lines_fit

pub returns-clause-readings : goal.returns-clause-readings
returns-clause-readings c = readings_fit
