-- What is left decides.
use Rattle.std.proofs.Common.{◌≡◌, length}
use Rattle.plain_out.specs.Pace.{loses}
use Rattle.plain_out.proofs.places.loses.Given as goal

abbrev pub invariant-loop-before : goal.invariant-loop-before
invariant-loop-before l = loses l.before l.after ≡ loses l.initial.before l.initial.after

abbrev pub decreases-loop-before : goal.decreases-loop-before
decreases-loop-before l = length l.before
