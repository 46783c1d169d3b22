use Rattle.std.proofs.Common.{ap, ◌∙◌, length, arith}
use Rattle.std.specs.List.{flat_map}
use Rattle.bus_identity.specs.PgnLists.{received_as_device, taken_by, with_groups}
use Rattle.bus_identity.proofs.lists.received.Goals as goal

-- those of a device are there, and no row's yet
pub loop-row-init : goal.loop-row-init
loop-row-init c = record {
  whole =
      ap (λ groups. with_groups groups (flat_map taken_by c.args.rows.now))
      (c.add_all.ensures.groups ∙ ap (λ groups. with_groups groups received_as_device) c.new-groups.ensures);
  few = let empty = ap length c.new-groups.ensures in omega (arith, empty, c.add_all.ensures.length);
}
