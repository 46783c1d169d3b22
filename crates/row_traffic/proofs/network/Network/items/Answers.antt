use Rattle.std.proofs.Common.{refl}
use Rattle.row_traffic.proofs.network.Network.items.Goals as goal

pub loop-item-init : goal.loop-item-init
loop-item-init c = record { each = c.requires.each; hears = c.requires.hears; after = refl; whole = refl }

pub item-requires-clause-hears : goal.item-requires-clause-hears
item-requires-clause-hears c = c.loop-item.invariant.hears

pub returns-clause-hears : goal.returns-clause-hears
returns-clause-hears c = c.loop-item.invariant.hears
