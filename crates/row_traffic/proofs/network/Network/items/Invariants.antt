-- What was taken and what is still to be taken make up the whole.
use Rattle.std.proofs.Common.{◌≡◌, length}
use Rattle.std.specs.List.{AllByRecursion}
use Rattle.tag_block.specs.contracts.group_key.GroupKeyOrd as key
use Rattle.datagram450.specs.Datagram.{IsItem}
use Rattle.gate_outbox.specs.Output.{and_told, most_told}
use Rattle.row_traffic.specs.NetCalls.{Hears, after_items, items_give}
use Rattle.row_traffic.proofs.network.Network.items.Given as goal

abbrev pub invariant-loop-item : goal.invariant-loop-item
invariant-loop-item l =
    let cmp = key.TheImpl.ghosts.cmp in
    record {
      each : AllByRecursion IsItem l.items;
      hears : Hears l.hearing l.self;
      after : after_items cmp l.hearing l.self l.items ≡ after_items cmp l.hearing l.initial.self l.initial.items;
      whole : and_told most_told l.out (items_give cmp l.hearing l.self l.items)
          ≡ and_told most_told l.initial.out (items_give cmp l.hearing l.initial.self l.initial.items);
    }

abbrev pub decreases-loop-item : goal.decreases-loop-item
decreases-loop-item l = length l.items
