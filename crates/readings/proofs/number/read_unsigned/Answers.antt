-- The field's value is the number that byteorder reads from its place on.
use Rattle.std.proofs.Common.{◌≤◌, ◌+◌, length, rules}
use Rattle.readings.proofs.Numbers.{unsigned_within}
use Rattle.readings.proofs.number.read_unsigned.Goals as goal

pub returns : goal.returns
returns c =
    let inside : c.args.at + c.args.width ≤ length c.args.bytes.now = search rules in
    unsigned_within _ _ _ _ inside c.read_uint.ensures
