use Rattle.std.proofs.Common.{refl}
use Rattle.tag_block.proofs.group_assembler.key_of.Goals as goal

pub returns : goal.returns
returns c = refl
