-- The places count.
use Rattle.std.proofs.Common.{arith}
use Rattle.unit_fraction.proofs.Round.{round_signed}
use Rattle.unit_fraction.proofs.Nearest.{decimal_fits, power_fits}
use Rattle.unit_fraction.proofs.fraction.scaled_decimal.Goals as goal

pub returns : goal.returns
returns c = grind (arith, round_signed, decimal_fits, power_fits)
