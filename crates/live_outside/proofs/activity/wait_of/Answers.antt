use Rattle.std.proofs.Common.{rules}
use Rattle.live_outside.proofs.activity.wait_of.Goals as goal

pub returns-then-other-lt-LATELY-clause-hears_who_spoke_lately : goal.returns-then-other-lt-LATELY-clause-hears_who_spoke_lately
returns-then-other-lt-LATELY-clause-hears_who_spoke_lately c = search rules
