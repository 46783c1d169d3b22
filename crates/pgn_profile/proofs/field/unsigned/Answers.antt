-- A number of more than 63 bits is above each range.
use Rattle.std.proofs.Common.{w64, FitsSigned, rules}
use Rattle.pgn_profile.proofs.Available.{unsigned_too_large}
use Rattle.pgn_profile.proofs.field.unsigned.Goals as goal

pub returns-in_default-2 : goal.returns-in_default-2
returns-in_default-2 c =
    let fits : FitsSigned w64 c.args.range.high = search rules in
    unsigned_too_large _ _ _ _ _ fits c.in_default.ensures c.in_ok-read_unsigned.ensures

pub returns-in-Ok : goal.returns-in-Ok
returns-in-Ok c = search rules
