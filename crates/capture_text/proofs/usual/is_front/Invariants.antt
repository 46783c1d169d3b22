use Rattle.std.proofs.Common.{◌≡◌, true}
use Rattle.capture_text.specs.Usual.{IsFrontTo}
use Rattle.capture_text.proofs.usual.is_front.Given as goal

abbrev pub invariant-loop-i : goal.invariant-loop-i
invariant-loop-i l = l.all ≡ true → IsFrontTo l.i l.front
