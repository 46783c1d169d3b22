-- What is emitted while addresses change hands.
use Rattle.std.specs.Prelude.{List, [], ◌∷◌, ◌++◌, codes}
use Rattle.gate_events.specs.declared.emit.Detail.TheVariants as detail
use Rattle.history.specs.Entries.{Entry, tick}
use Rattle.history.specs.Emits.{broken, of_source}
use Rattle.history.specs.Cases.{Emits, full, can_frame, emitted, navd, bare, two_devices, fix, fix_said}

-- a heading of a device without a claim is refused; after its claim it is said
abbrev pub HeadingAfterClaim : Type 0
HeadingAfterClaim =
    Emits bare 1700000000000000
    (full 1700000000000000 0x09F11217 0x005C3DFF7FFF7FFC
    ∷ full 1700000000100000 0x18EEFF17 0x0500C0FF008C78C0
    ∷ full 1700000000200000 0x09F11217 0x005C3DFF7FFF7FFC
    ∷ [])
    (emitted 1700000000000000 (of_source 10 23 127250)
    ∷ emitted 1700000000200000 (navd (codes "s:II0001,n:1*01") (codes "$HEHDT,90.0,T*16"))
    ∷ [])

abbrev pub half_a_fix : List Entry
half_a_fix = fix 1000000 23 0 ∷ fix 1001000 23 1 ∷ fix 1002000 23 2 ∷ fix 1003000 23 3 ∷ []

-- a smaller NAME takes the sender's address in the middle of its message: what came is given up, and no frame of the taker
-- is joined to it
abbrev pub TakenOver : Type 0
TakenOver =
    Emits two_devices 1000000
    (half_a_fix ++ full 1004000 0x18EEFF17 0x0200C0FF00823280 ∷ fix 1005000 23 4 ∷ fix 1006000 23 5 ∷ fix 1007000 23 6 ∷ [])
    (emitted 1004000 (of_source 17 23 129029)
    ∷ emitted 1005000 (of_source 12 23 129029)
    ∷ emitted 1006000 (of_source 12 23 129029)
    ∷ emitted 1007000 (of_source 12 23 129029)
    ∷ [])

-- the holder claims its address again: its message goes on
abbrev pub ClaimedAgain : Type 0
ClaimedAgain =
    Emits two_devices 1000000
    (half_a_fix ++ full 1004000 0x18EEFF17 0x0500C0FF008C78C0 ∷ fix 1005000 23 4 ∷ fix 1006000 23 5 ∷ fix 1007000 23 6 ∷ [])
    (emitted 1007000 (navd (codes "s:II0001,n:1*01") fix_said) ∷ [])

-- a greater NAME claims the gateway's address: the gateway claims it again
abbrev pub Defended : Type 0
Defended =
    Emits two_devices 10000000
    (tick 10000000 ∷ full 10001000 0x18EEFFFB 0x0500C0FF008C78C0 ∷ [])
    (emitted 10001000 (can_frame 0x18EEFFFB 0x0100C0FF008232C0) ∷ [])

-- the gateway is told to go to address 100, which is free
abbrev pub Obeyed : Type 0
Obeyed =
    Emits two_devices 10000000
    (tick 10000000
    ∷ full 10100000 0x1CECFF17 0x20090002FFD8FE00
    ∷ full 10200000 0x1CEBFF17 0x010100C0FF008232
    ∷ full 10300000 0x1CEBFF17 0x02C064FFFFFFFFFF
    ∷ [])
    (emitted 10300000 (can_frame 0x18EEFF64 0x0100C0FF008232C0) ∷ [])

-- and to address 24, which has a holder
abbrev pub NotObeyed : Type 0
NotObeyed =
    Emits two_devices 10000000
    (tick 10000000
    ∷ full 10100000 0x1CECFF17 0x20090002FFD8FE00
    ∷ full 10200000 0x1CEBFF17 0x010100C0FF008232
    ∷ full 10300000 0x1CEBFF17 0x02C018FFFFFFFFFF
    ∷ [])
    (emitted 10300000 (of_source 26 23 65240) ∷ [])

-- an event that is earlier than the last one has no effect but its report
abbrev pub Backwards : Type 0
Backwards = Emits two_devices 5000000 (tick 5000000 ∷ tick 4999999 ∷ []) (emitted 5000000 (broken 3 detail.Nothing) ∷ [])
