use Rattle.std.proofs.Common.{◌≡◌, ◌*◌, ◌++◌, take, drop}
use Rattle.capture_text.specs.Hexadecimal.{paired}
use Rattle.capture_text.proofs.hexadecimal.put_pairs.Given as goal

abbrev pub invariant-loop-i : goal.invariant-loop-i
invariant-loop-i l = take l.i l.room ++ paired (drop (2 * l.i) l.values) ≡ paired l.values
