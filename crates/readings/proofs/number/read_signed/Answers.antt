-- The field's value is the number that byteorder reads from its place on, which fits 64 bits.
use Rattle.std.proofs.Common.{◌≤◌, ◌+◌, length, w64, FitsSigned, ap, ◌∙◌, Some, rules}
use Rattle.std.proofs.lemmas.Int.{to_z-of_z}
use Rattle.readings.proofs.Numbers.{signed_within}
use Rattle.readings.proofs.number.read_signed.Goals as goal

pub returns : goal.returns
returns c =
    let inside : c.args.at + c.args.width ≤ length c.args.bytes.now = search rules in
    let fits : FitsSigned w64 c.read_int.result = search rules in
    ap Some (to_z-of_z w64 c.read_int.result fits) ∙ signed_within _ _ _ _ inside c.read_int.ensures
