use Rattle.std.proofs.Common.{◌≡◌, ◌-◌, ◌*◌, ◌≤◌, length, take, Ok}
use Rattle.hex.specs.Hex.{decode_of}
use Rattle.capture_text.proofs.hexadecimal.put_sixteens.Given as goal

abbrev pub invariant-loop-room : goal.invariant-loop-room
invariant-loop-room l = (l.done ≤ length l.room) × (decode_of (take (2 * l.done) l.digits) ≡ Ok (take l.done l.room))

abbrev pub decreases-loop-room : goal.decreases-loop-room
decreases-loop-room l = length l.room - l.done
