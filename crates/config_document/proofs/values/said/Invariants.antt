use Rattle.std.proofs.Common.{◌≡◌, ◌≤◌, ◌++◌, Some, drop, length, All}
use Rattle.toml.specs.View.{items_view}
use Rattle.config_document.specs.Kinds.{each_said, ◌>>?◌}
use Rattle.config_document.proofs.values.said.Given as goal

abbrev pub invariant-loop-item : goal.invariant-loop-item
invariant-loop-item g l =
    ((each_said g.T.Written.said_by (items_view (drop l.item-index l.items)) >>? λ more. Some (l.list.items ++ more)) ≡ each_said g.T.Written.said_by (items_view l.items))
    × (length l.list.items ≡ l.item-index) × (length l.items ≤ g.row.MOST) × All g.T.Written.is_valid l.list.items
