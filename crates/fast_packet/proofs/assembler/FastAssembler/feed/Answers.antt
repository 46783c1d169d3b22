use Rattle.std.proofs.Common.{rules}
use Rattle.fast_packet.proofs.assembler.FastAssembler.feed.Goals as goal

pub returns : goal.returns
returns c = search rules
