use Rattle.std.proofs.Common.{rules}
use Rattle.joined_rmc.proofs.minimum.longitude_in.Goals as goal

pub returns-in-Some-Position-clause-value : goal.returns-in-Some-Position-clause-value
returns-in-Some-Position-clause-value c = search rules

pub returns-in-Some-Position-clause-valid : goal.returns-in-Some-Position-clause-valid
returns-in-Some-Position-clause-valid c = search rules
