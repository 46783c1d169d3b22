use Rattle.history.proofs.Ignoring.{ignored_are_unsaid, ignored_are_unnoted, ignored_keep_nobody_back, ranks_without_ignored}
use Rattle.history.proofs.laws.ignored_devices_say_nothing.Goals as goal

pub returns-clause-unsaid : goal.returns-clause-unsaid
returns-clause-unsaid c = ignored_are_unsaid

pub returns-clause-unnoted : goal.returns-clause-unnoted
returns-clause-unnoted c = ignored_are_unnoted

pub returns-clause-back : goal.returns-clause-back
returns-clause-back c = ignored_keep_nobody_back

pub returns-clause-others : goal.returns-clause-others
returns-clause-others c = ranks_without_ignored
