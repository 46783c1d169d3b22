-- What was appended, with what is still to be appended, makes the whole.
use Rattle.std.proofs.Common.{◌≡◌}
use Rattle.plain_out.specs.Pace.{with_items}
use Rattle.plain_out.proofs.places.Places.add_lines.Given as goal

abbrev pub invariant-loop-item : goal.invariant-loop-item
invariant-loop-item l = with_items l.self l.items ≡ with_items l.initial.self l.initial.items
