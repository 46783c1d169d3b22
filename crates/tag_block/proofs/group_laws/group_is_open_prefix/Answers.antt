use Rattle.tag_block.proofs.GroupPrefixes.{kept_open}
use Rattle.tag_block.proofs.group_laws.group_is_open_prefix.Goals as goal

pub returns : goal.returns
returns c h valid = kept_open h valid
