-- The transport protocol's rules (ISO 11783-3, 5.10).
use Rattle.std.specs.Prelude.{◌+◌, ◌-◌, [], ◌∷◌}
use Rattle.report_rules.specs.Rules.{iso_order, iso_orphan, iso_size, iso_aborted, not_ready, restarted}
use Rattle.history.specs.Entries.{frame, tick}
use Rattle.history.specs.Emits.{of_source}
use Rattle.history.specs.Cases.{Emits, full, can_frame, emitted, two_devices, when_ready}

-- a packet that isn't the next one ends the session, and its sender is told so; the packets behind it belong to none
abbrev pub OutOfOrder : Type 0
OutOfOrder =
    Emits two_devices 10000000
    (tick 10000000
    ∷ full when_ready 0x1CECFB17 0x10F906FFFF05F801
    ∷ full (when_ready + 1000) 0x1CEBFB17 0x0200000000000000
    ∷ full (when_ready + 2000) 0x1CEBFB17 0x0100000000000000
    ∷ [])
    (emitted when_ready (can_frame 0x1CEC17FB 0x110801FFFF05F801)
    ∷ emitted (when_ready + 1000) (of_source iso_order 23 60160)
    ∷ emitted (when_ready + 1000) (can_frame 0x1CEC17FB 0xFF02FFFFFF05F801)
    ∷ emitted (when_ready + 2000) (of_source iso_orphan 23 60160)
    ∷ [])

-- one that is short besides is told to be short
abbrev pub ShortAndOutOfOrder : Type 0
ShortAndOutOfOrder =
    Emits two_devices 10000000
    (tick 10000000
    ∷ full when_ready 0x1CECFB17 0x10F906FFFF05F801
    ∷ frame (when_ready + 1000) (record { id = 0x1CEBFB17; held = 0x02 ∷ 0x00 ∷ [] })
    ∷ [])
    (emitted when_ready (can_frame 0x1CEC17FB 0x110801FFFF05F801)
    ∷ emitted (when_ready + 1000) (of_source iso_size 23 60160)
    ∷ emitted (when_ready + 1000) (can_frame 0x1CEC17FB 0xFF02FFFFFF05F801)
    ∷ [])

-- a sender gives up its session; where none is open its word is passed over
abbrev pub GivenUp : Type 0
GivenUp =
    Emits two_devices 10000000
    (tick 10000000
    ∷ full when_ready 0x1CECFB17 0x10F906FFFF05F801
    ∷ full (when_ready + 1000) 0x1CECFB17 0xFF01FFFFFF05F801
    ∷ full (when_ready + 2000) 0x1CECFB17 0xFF01FFFFFF05F801
    ∷ [])
    (emitted when_ready (can_frame 0x1CEC17FB 0x110801FFFF05F801)
    ∷ emitted (when_ready + 1000) (of_source iso_aborted 23 129029)
    ∷ [])

-- a request to send that came before the gateway was ready opens nothing
abbrev pub BegunTooEarly : Type 0
BegunTooEarly =
    Emits two_devices 10000000
    (tick 10000000
    ∷ full (when_ready - 1) 0x1CECFB17 0x10F906FFFF05F801
    ∷ full when_ready 0x1CEBFB17 0x0100DB4C0008AF2F
    ∷ [])
    (emitted (when_ready - 1) (of_source not_ready 23 60416)
    ∷ emitted when_ready (of_source iso_orphan 23 60160)
    ∷ [])

-- a request to send that comes again begins the session again
abbrev pub BegunAgain : Type 0
BegunAgain =
    Emits two_devices 10000000
    (tick 10000000
    ∷ full when_ready 0x1CECFB17 0x10F906FFFF05F801
    ∷ full (when_ready + 1000) 0x1CECFB17 0x10F906FFFF05F801
    ∷ [])
    (emitted when_ready (can_frame 0x1CEC17FB 0x110801FFFF05F801)
    ∷ emitted (when_ready + 1000) (of_source restarted 23 129029)
    ∷ emitted (when_ready + 1000) (can_frame 0x1CEC17FB 0x110801FFFF05F801)
    ∷ [])
