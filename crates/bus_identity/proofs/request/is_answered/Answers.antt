use Rattle.std.proofs.Common.{rules}
use Rattle.bus_identity.proofs.request.is_answered.Goals as goal

pub returns-else-asked-eq-PGN_LISTS : goal.returns-else-asked-eq-PGN_LISTS
returns-else-asked-eq-PGN_LISTS c = search rules
