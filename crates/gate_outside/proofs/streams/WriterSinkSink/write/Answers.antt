use Rattle.std.proofs.Common.{rules}
use Rattle.gate_outside.proofs.streams.WriterSinkSink.write.Goals as goal

pub returns-in-Ok-clause-passed_on : goal.returns-in-Ok-clause-passed_on
returns-in-Ok-clause-passed_on g c = search rules
