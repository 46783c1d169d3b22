use Rattle.slot_views.proofs.RunSteps.{one_step_of}
use Rattle.slot_views.proofs.RunSuffixes.{one_suffix_of}
use Rattle.tag_block.specs.GroupRuns.{group_rules}
use Rattle.tag_block.proofs.GroupPrefixes.{lawful}
use Rattle.tag_block.proofs.group_laws.groups_are_runs.Goals as goal

pub returns : goal.returns
returns c = record { step = one_step_of group_rules lawful; suffix = one_suffix_of group_rules lawful }
