use Rattle.std.proofs.Common.{rules}
use Rattle.capture_stream.proofs.writer.Writer.flush.Goals as goal

pub returns-in_err-send_now-clause-sent : goal.returns-in_err-send_now-clause-sent
returns-in_err-send_now-clause-sent g c = search rules

pub returns-clause-sent : goal.returns-clause-sent
returns-clause-sent g c = search rules
