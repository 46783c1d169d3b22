-- The gap, and the total, are the group's.
use Rattle.std.proofs.Common.{rules}
use Rattle.tag_block.proofs.group_assembler.GroupAssembler.begin.Goals as goal

pub returns : goal.returns
returns c = search rules
