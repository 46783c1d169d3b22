use Rattle.std.proofs.Common.{◌≡◌, drop}
use Rattle.unit_fraction.specs.Digits.{number_after}
use Rattle.capture_text.proofs.time.number.Given as goal

abbrev pub invariant-loop-digit : goal.invariant-loop-digit
invariant-loop-digit l = number_after l.number (drop l.digit-index l.digits) ≡ number_after l.before l.digits
