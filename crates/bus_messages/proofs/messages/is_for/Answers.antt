use Rattle.std.proofs.Common.{rules}
use Rattle.bus_messages.proofs.messages.is_for.Goals as goal

pub returns-then-payload-gt-ORDERED_AT : goal.returns-then-payload-gt-ORDERED_AT
returns-then-payload-gt-ORDERED_AT c = search rules
