use Rattle.std.proofs.Common.{rules}
use Rattle.row_traffic.proofs.network.hearing.Hearing.is_own.Goals as goal

pub returns : goal.returns
returns c = search rules
