-- What is emitted of fast packets.
use Rattle.std.specs.Prelude.{ℕ, ◌+◌, ◌*◌, List, [], ◌∷◌, codes}
use Rattle.fast_packet.specs.FastRuns as fast
use Rattle.history.specs.Entries.{Entry, tick}
use Rattle.history.specs.Settings.{Settings}
use Rattle.history.specs.Emits.{of_source}
use Rattle.history.specs.Cases.{Emits, IsSilent, full, emitted, navd, two_devices, fix, fix_said}

-- two senders in turn: each message is said when its last frame comes, and a frame behind it belongs to none
abbrev pub InTurn : Type 0
InTurn =
    Emits two_devices 1000000
    (fix 1000000 24 0 ∷ fix 1001000 23 0 ∷ fix 1002000 24 1 ∷ fix 1003000 23 1 ∷ fix 1004000 24 2 ∷ fix 1005000 23 2 ∷ fix 1006000 24 3
    ∷ fix 1007000 23 3 ∷ fix 1008000 24 4 ∷ fix 1009000 23 4 ∷ fix 1010000 24 5 ∷ fix 1011000 23 5 ∷ fix 1012000 24 6 ∷ fix 1013000 23 6
    ∷ fix 1014000 23 6 ∷ [])
    (emitted 1012000 (navd (codes "s:II0001,n:1*01") fix_said)
    ∷ emitted 1013000 (navd (codes "s:II0001,n:2*02") fix_said)
    ∷ emitted 1014000 (of_source 12 23 129029)
    ∷ [])

-- a frame may come as long after the one before it as the gap, and no later
abbrev pub JustInTime : Type 0
JustInTime = IsSilent two_devices 5000000 (fix 5000000 23 0 ∷ fix (5000000 + fast.gap) 23 1 ∷ [])

abbrev pub TooLate : Type 0
TooLate =
    Emits two_devices 5000000 (fix 5000000 23 0 ∷ fix (5000000 + fast.gap + 1) 23 1 ∷ [])
    (emitted (5000000 + fast.gap + 1) (of_source 16 23 129029) ∷ emitted (5000000 + fast.gap + 1) (of_source 12 23 129029) ∷ [])

-- with room for one message, an opener of another is refused until the first has ended
abbrev pub one_slot : Settings
one_slot = record two_devices { fast_slots = 1 }

abbrev pub NoRoom : Type 0
NoRoom =
    Emits one_slot 5000000 (fix 5000000 23 0 ∷ fix 5100000 24 0 ∷ tick (5000000 + fast.gap + 1) ∷ fix (5000000 + fast.gap + 50000) 24 0 ∷ [])
    (emitted 5100000 (of_source 15 24 129029) ∷ emitted (5000000 + fast.gap + 1) (of_source 16 23 129029) ∷ [])

-- a length of one byte too many, and of none
abbrev pub WrongLengths : Type 0
WrongLengths =
    Emits two_devices 1000000 (full 1000000 0x0DF80517 ((fast.longest + 1) * 0x1000000000000) ∷ full 1001000 0x0DF80517 0 ∷ [])
    (emitted 1000000 (of_source 13 23 129029) ∷ emitted 1001000 (of_source 13 23 129029) ∷ [])

-- a frame that comes twice is passed over, and the message is said once
abbrev pub SentTwice : Type 0
SentTwice =
    Emits two_devices 1000000
    (fix 1000000 23 0 ∷ fix 1001000 23 1 ∷ fix 1002000 23 2 ∷ fix 1003000 23 3 ∷ fix 1004000 23 3 ∷ fix 1005000 23 4 ∷ fix 1006000 23 5
    ∷ fix 1007000 23 6 ∷ [])
    (emitted 1007000 (navd (codes "s:II0001,n:1*01") fix_said) ∷ [])

-- a second frame 1 with other bytes is none that was sent twice
abbrev pub OutOfOrder : Type 0
OutOfOrder =
    Emits two_devices 1000000 (fix 1000000 23 0 ∷ fix 1001000 23 1 ∷ full 1002000 0x0DF80517 0x012F000000000001 ∷ [])
    (emitted 1002000 (of_source 11 23 129029) ∷ [])

-- an opener that comes twice begins its message again
abbrev pub BegunAgain : Type 0
BegunAgain = Emits two_devices 1000000 (fix 1000000 23 0 ∷ fix 1001000 23 0 ∷ []) (emitted 1001000 (of_source 14 23 129029) ∷ [])

-- the longest message, of 223 bytes in 32 frames: it begins with the position fix, and what follows it says nothing
abbrev pub longest : List ℕ
longest =
    0x00DF00DB4C0008AF ∷ 0x012F000000000000 ∷ 0x0200080000000000 ∷ 0x03000002E0AEBB00 ∷ 0x040000000010FC09
    ∷ 0x056900FF7FF40600 ∷ 0x060000FFFFFFFFFF ∷ 0x07FFFFFFFFFFFFFF ∷ 0x08FFFFFFFFFFFFFF ∷ 0x09FFFFFFFFFFFFFF
    ∷ 0x0AFFFFFFFFFFFFFF ∷ 0x0BFFFFFFFFFFFFFF ∷ 0x0CFFFFFFFFFFFFFF ∷ 0x0DFFFFFFFFFFFFFF ∷ 0x0EFFFFFFFFFFFFFF
    ∷ 0x0FFFFFFFFFFFFFFF ∷ 0x10FFFFFFFFFFFFFF ∷ 0x11FFFFFFFFFFFFFF ∷ 0x12FFFFFFFFFFFFFF ∷ 0x13FFFFFFFFFFFFFF
    ∷ 0x14FFFFFFFFFFFFFF ∷ 0x15FFFFFFFFFFFFFF ∷ 0x16FFFFFFFFFFFFFF ∷ 0x17FFFFFFFFFFFFFF ∷ 0x18FFFFFFFFFFFFFF
    ∷ 0x19FFFFFFFFFFFFFF ∷ 0x1AFFFFFFFFFFFFFF ∷ 0x1BFFFFFFFFFFFFFF ∷ 0x1CFFFFFFFFFFFFFF ∷ 0x1DFFFFFFFFFFFFFF
    ∷ 0x1EFFFFFFFFFFFFFF ∷ 0x1FFFFFFFFFFFFFFF ∷ []

abbrev pub each_from : ℕ → List ℕ → List Entry
each_from moment [] = []
each_from moment (x ∷ xs) = full moment 0x0DF80517 x ∷ each_from (moment + 1000) xs

abbrev pub Longest : Type 0
Longest = Emits two_devices 1000000 (each_from 1000000 longest) (emitted 1031000 (navd (codes "s:II0001,n:1*01") fix_said) ∷ [])
