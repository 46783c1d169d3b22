use Rattle.std.proofs.Common.{arith}
use Rattle.live_outside.proofs.Within.{loads_whole}
use Rattle.live_outside.proofs.disk_files.read_whole.Goals as goal

pub returns-in-Ok-2 : goal.returns-in-Ok-2
returns-in-Ok-2 g c =
    loads_whole _ g.R.Read.remaining c.args.reader c.take.result.inner c.take.result.limit c.new-bytes.result.items c.read_to_end.new.buf
    (omega (arith, c.take.ensures.limit)) c.take.ensures.inner c.new-bytes.ensures.items c.in-Ok-2.ensures.bytes (omega arith)
