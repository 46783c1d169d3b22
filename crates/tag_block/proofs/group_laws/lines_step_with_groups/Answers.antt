use Rattle.tag_block.specs.contracts.group_key.GroupKeyOrd as key
use Rattle.tag_block.proofs.GroupKeys.{steps_with_runs}
use Rattle.tag_block.proofs.group_laws.lines_step_with_groups.Goals as goal

pub returns : goal.returns
returns c = steps_with_runs key.TheImpl.Laws.total-law
