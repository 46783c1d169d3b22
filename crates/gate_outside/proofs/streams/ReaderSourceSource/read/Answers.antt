-- A failure tells nothing of the end.
use Rattle.gate_outside.proofs.streams.ReaderSourceSource.read.Goals as goal

pub returns-in-Err-clause-end : goal.returns-in-Err-clause-end
returns-in-Err-clause-end g c = tt
