-- How many packets a sender may send before it waits (ISO 11783-3, 5.10.3).
use Rattle.std.specs.Prelude.{ℕ, zero, suc, ◌+◌, ◌-◌, ◌*◌, min, List, [], ◌∷◌, ◌++◌}
use Rattle.report_rules.specs.Rules.{expired}
use Rattle.iso_transport.specs.IsoRuns.{gap, granted_gap}
use Rattle.history.specs.Entries.{Entry, tick}
use Rattle.gate_events.specs.Emit.{Emit}
use Rattle.history.specs.Emits.{of_source}
use Rattle.history.specs.Cases.{Emits, full, can_frame, emitted, two_devices, when_ready}

-- the request to send 70 bytes in ten packets, with this limit of packets for one clear to send
abbrev pub request : ℕ → Entry
request limit = full when_ready 0x1CECFB17 (0x1046000A0005F801 + limit * 0x1000000)

-- packets from this number on, a millisecond apart
abbrev pub packets : ℕ → ℕ → List Entry
packets zero number = []
packets (suc k) number = full (when_ready + number * 1000) 0x1CEBFB17 (number * 0x100000000000000) ∷ packets k (number + 1)

abbrev pub clear : ℕ → ℕ → Emit
clear count next = can_frame 0x1CEC17FB (0x110000FFFF05F801 + count * 0x1000000000000 + next * 0x10000000000)

-- the sender may send so many packets before it waits; after the last of them it has the longer gap, that after a grant, and is given up when that is over
abbrev pub Window : ℕ → ℕ → Type 0
Window limit w =
    Emits two_devices 10000000
    (tick 10000000 ∷ request limit ∷ packets w 1 ++ tick (when_ready + w * 1000 + granted_gap) ∷ tick (when_ready + w * 1000 + granted_gap + 1) ∷ [])
    (emitted when_ready (clear w 1)
    ∷ emitted (when_ready + w * 1000) (clear (min w (10 - w)) (w + 1))
    ∷ emitted (when_ready + w * 1000 + granted_gap + 1) (of_source expired 23 129029)
    ∷ emitted (when_ready + w * 1000 + granted_gap + 1) (can_frame 0x1CEC17FB 0xFF03FFFFFF05F801)
    ∷ [])

-- a limit of 0 counts as 1, and one above 8 as 8
abbrev pub EachWindow : Type 0
EachWindow = Window 0 1 × Window 1 1 × Window 2 2 × Window 3 3 × Window 4 4 × Window 5 5 × Window 6 6 × Window 7 7 × Window 8 8 × Window 9 8

-- the next packet of a window may take the shorter gap
abbrev pub WithinAWindow : Type 0
WithinAWindow =
    Emits two_devices 10000000
    (tick 10000000
    ∷ request 8
    ∷ full (when_ready + 1000) 0x1CEBFB17 0x0100000000000000
    ∷ tick (when_ready + 1000 + gap)
    ∷ tick (when_ready + 1000 + gap + 1)
    ∷ [])
    (emitted when_ready (clear 8 1)
    ∷ emitted (when_ready + 1000 + gap + 1) (of_source expired 23 129029)
    ∷ emitted (when_ready + 1000 + gap + 1) (can_frame 0x1CEC17FB 0xFF03FFFFFF05F801)
    ∷ [])
