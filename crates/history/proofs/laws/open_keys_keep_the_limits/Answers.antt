use Rattle.history.proofs.FastLimits.{fast_within_limit}
use Rattle.history.proofs.IsoLimits.{iso_within_limit}
use Rattle.history.proofs.GroupLimits.{groups_within_limit}
use Rattle.history.proofs.laws.open_keys_keep_the_limits.Goals as goal

pub returns-clause-fast : goal.returns-clause-fast
returns-clause-fast c = fast_within_limit

pub returns-clause-iso : goal.returns-clause-iso
returns-clause-iso c = iso_within_limit

pub returns-clause-groups : goal.returns-clause-groups
returns-clause-groups c = groups_within_limit
