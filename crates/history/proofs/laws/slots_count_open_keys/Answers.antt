use Rattle.history.proofs.FastCounts.{slots_count_fast}
use Rattle.history.proofs.IsoCounts.{slots_count_iso}
use Rattle.history.proofs.GroupCounts.{slots_count_groups}
use Rattle.history.proofs.laws.slots_count_open_keys.Goals as goal

pub returns-clause-fast : goal.returns-clause-fast
returns-clause-fast c = slots_count_fast

pub returns-clause-iso : goal.returns-clause-iso
returns-clause-iso c = slots_count_iso

pub returns-clause-groups : goal.returns-clause-groups
returns-clause-groups c = slots_count_groups
