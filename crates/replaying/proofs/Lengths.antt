-- Lines of captures that are too long.
use Rattle.std.proofs.Common.{[], ◌∷◌, ap, arith}
use Rattle.capture_text.proofs.Lines.{too_long}
use Rattle.replaying.specs.LengthLaws.{LongLines}
use Rattle.replaying.specs.Replayed.{with_read}

pub long_lines : LongLines
long_lines p number g [] long = absurd (omega (arith, long))
long_lines p number g (x ∷ xs) long = ap (with_read p number g) (too_long (x ∷ xs) long)
