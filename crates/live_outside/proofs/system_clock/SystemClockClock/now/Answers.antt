use Rattle.std.proofs.Common.{rules}
use Rattle.live_outside.proofs.system_clock.SystemClockClock.now.Goals as goal

pub returns-clause-never_falls : goal.returns-clause-never_falls
returns-clause-never_falls g c = search rules
