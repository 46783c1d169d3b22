-- The place of a fault is counted from the datagram.
use Rattle.std.proofs.Common.{rules}
use Rattle.datagram450.specs.Datagram.{item}
use Rattle.datagram450.proofs.item.read_line.Goals as goal

pub returns-in-Err : goal.returns-in-Err
unfolding item
returns-in-Err c = search rules
