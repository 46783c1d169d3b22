-- What is left makes the number whole.
use Rattle.std.proofs.Common.{◌≡◌, drop}
use Rattle.tag_block.specs.Tag.{number}
use Rattle.tag_block.proofs.Numbers.{number_after}
use Rattle.tag_block.proofs.number.number_of.Given as goal

abbrev pub invariant-loop-digit : goal.invariant-loop-digit
invariant-loop-digit l = number_after l.number (drop l.digit-index l.digits) ≡ number l.digits
