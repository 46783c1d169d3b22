-- What is emitted of the transport protocol.
use Rattle.std.specs.Prelude.{◌+◌, ◌-◌, [], ◌∷◌, codes}
use Rattle.iso_transport.specs.IsoRuns.{granted_gap}
use Rattle.history.specs.Entries.{frame, tick}
use Rattle.history.specs.Settings.{Settings}
use Rattle.history.specs.Emits.{of_source}
use Rattle.history.specs.Cases.{Emits, full, can_frame, emitted, navd, two_devices, fix_said, when_ready}

-- a message of 1785 bytes to the gateway is begun: it grants the first eight packets; a size of 8 is refused
abbrev pub Granted : Type 0
Granted =
    Emits two_devices 10000000 (tick 10000000 ∷ full when_ready 0x1CECFB17 0x10F906FFFF05F801 ∷ [])
    (emitted when_ready (can_frame 0x1CEC17FB 0x110801FFFF05F801) ∷ [])

abbrev pub WrongSize : Type 0
WrongSize =
    Emits two_devices 10000000 (tick 10000000 ∷ full when_ready 0x1CECFB17 0x10080002FF05F801 ∷ [])
    (emitted when_ready (of_source 18 23 60416) ∷ emitted when_ready (can_frame 0x1CEC17FB 0xFF02FFFFFF05F801) ∷ [])

-- before the gateway has had its address for the wait of a claim it answers no sender
abbrev pub TooEarly : Type 0
TooEarly =
    Emits two_devices 10000000 (tick 10000000 ∷ full (when_ready - 1) 0x1CECFB17 0x10F906FFFF05F801 ∷ [])
    (emitted (when_ready - 1) (of_source 45 23 60416) ∷ [])

-- with room for one session a second sender is told so, and the first one that it came too late
abbrev pub one_slot : Settings
one_slot = record two_devices { iso_slots = 1 }

abbrev pub NoRoom : Type 0
NoRoom =
    Emits one_slot 10000000
    (tick 10000000 ∷ full when_ready 0x1CECFB17 0x10F906FFFF05F801 ∷ full (when_ready + 1000) 0x1CECFB18 0x10F906FFFF05F801 ∷ tick (when_ready + granted_gap + 1) ∷ [])
    (emitted when_ready (can_frame 0x1CEC17FB 0x110801FFFF05F801)
    ∷ emitted (when_ready + 1000) (of_source 15 24 129029)
    ∷ emitted (when_ready + 1000) (can_frame 0x1CEC18FB 0xFF01FFFFFF05F801)
    ∷ emitted (when_ready + granted_gap + 1) (of_source 16 23 129029)
    ∷ emitted (when_ready + granted_gap + 1) (can_frame 0x1CEC17FB 0xFF03FFFFFF05F801)
    ∷ [])

-- a position fix to all
abbrev pub Broadcast : Type 0
Broadcast =
    Emits two_devices 1000000
    (full 1000000 0x1CECFF17 0x202B0007FF05F801
    ∷ full 1001000 0x1CEBFF17 0x0100DB4C0008AF2F
    ∷ full 1002000 0x1CEBFF17 0x0200000000000000
    ∷ full 1003000 0x1CEBFF17 0x0308000000000000
    ∷ full 1004000 0x1CEBFF17 0x040002E0AEBB0000
    ∷ full 1005000 0x1CEBFF17 0x0500000010FC0969
    ∷ full 1006000 0x1CEBFF17 0x0600FF7FF4060000
    ∷ full 1007000 0x1CEBFF17 0x0700FFFFFFFFFFFF
    ∷ [])
    (emitted 1007000 (navd (codes "s:II0001,n:1*01") fix_said) ∷ [])

-- a frame of three bytes
abbrev pub CutOff : Type 0
CutOff =
    Emits two_devices 1000000 (frame 1000000 (record { id = 0x1CECFF17; held = 0x20 ∷ 0x09 ∷ 0x00 ∷ [] }) ∷ [])
    (emitted 1000000 (of_source 18 23 60416) ∷ [])

-- a packet that comes twice is passed over, and granted once
abbrev pub GrantedOnce : Type 0
GrantedOnce =
    Emits two_devices 10000000
    (tick 10000000
    ∷ full when_ready 0x1CECFB17 0x10F906FFFF05F801
    ∷ full (when_ready + 1000) 0x1CEBFB17 0x0100DB4C0008AF2F
    ∷ full (when_ready + 2000) 0x1CEBFB17 0x0200000000000000
    ∷ full (when_ready + 3000) 0x1CEBFB17 0x0308000000000000
    ∷ full (when_ready + 4000) 0x1CEBFB17 0x040002E0AEBB0000
    ∷ full (when_ready + 5000) 0x1CEBFB17 0x0500000010FC0969
    ∷ full (when_ready + 6000) 0x1CEBFB17 0x0600FF7FF4060000
    ∷ full (when_ready + 7000) 0x1CEBFB17 0x0700FFFFFFFFFFFF
    ∷ full (when_ready + 8000) 0x1CEBFB17 0x08FFFFFFFFFFFFFF
    ∷ full (when_ready + 9000) 0x1CEBFB17 0x08FFFFFFFFFFFFFF
    ∷ [])
    (emitted when_ready (can_frame 0x1CEC17FB 0x110801FFFF05F801) ∷ emitted (when_ready + 8000) (can_frame 0x1CEC17FB 0x110809FFFF05F801) ∷ [])
