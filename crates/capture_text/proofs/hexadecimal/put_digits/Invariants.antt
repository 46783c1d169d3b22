use Rattle.std.proofs.Common.{◌≡◌, ◌*◌, ◌++◌, take, drop}
use Rattle.hex.specs.Hex.{encode_upper}
use Rattle.capture_text.proofs.hexadecimal.put_digits.Given as goal

abbrev pub invariant-bytes : goal.invariant-bytes
invariant-bytes l = take (2 * l.i) l.room ++ encode_upper (drop l.i l.bytes) ≡ encode_upper l.bytes
