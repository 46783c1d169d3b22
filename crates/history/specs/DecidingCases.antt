-- Cases that one word of the definition decides: each would come out otherwise if that word were another.
use Rattle.std.specs.Prelude.{◌+◌, ◌-◌, [], ◌∷◌, ◌++◌, codes}
use Rattle.gate_events.specs.declared.emit.Detail.TheVariants as detail
use Rattle.datagram450.specs.Datagram.{header}
use Rattle.report_rules.specs.Rules.{claim_lost, claim_or_request_malformed, expired, fast_length, fast_orphan, group_order, not_ready, restarted, short_message}
use Rattle.fast_packet.specs.FastRuns.{gap}
use Rattle.history.specs.Entries.{datagram, frame, tick}
use Rattle.history.specs.Settings.{Settings}
use Rattle.history.specs.Emits.{broken, of_source}
use Rattle.history.specs.Cases.{Emits, IsSilent, full, can_frame, emitted, lined, navd, two_devices, fix, fix_said, when_ready}
use Rattle.history.specs.EndingCases.{exchanged, log}
use Rattle.history.specs.TransportCases.{one_slot}

-- ---- addresses (ISO 11783-5)

-- a command with the NAME of another device is none for the gateway
abbrev pub CommandForAnother : Type 0
CommandForAnother =
    IsSilent two_devices 10000000
    (tick 10000000
    ∷ full 10100000 0x1CECFF17 0x20090002FFD8FE00
    ∷ full 10200000 0x1CEBFF17 0x010600C0FF008C78
    ∷ full 10300000 0x1CEBFF17 0x02C064FFFFFFFFFF
    ∷ [])

-- one of ten bytes is obeyed
abbrev pub LongCommand : Type 0
LongCommand =
    Emits two_devices 10000000
    (tick 10000000
    ∷ full 10100000 0x1CECFF17 0x200A0002FFD8FE00
    ∷ full 10200000 0x1CEBFF17 0x010100C0FF008232
    ∷ full 10300000 0x1CEBFF17 0x02C064FFFFFFFFFF
    ∷ [])
    (emitted 10300000 (can_frame 0x18EEFF64 0x0100C0FF008232C0) ∷ [])

-- what its last frame ends stands before it
abbrev pub CommandBehindItsEvent : Type 0
CommandBehindItsEvent =
    Emits two_devices 10000000
    (tick 10000000
    ∷ fix 10100000 23 0
    ∷ full 10200000 0x1CECFF18 0x20090002FFD8FE00
    ∷ full 10500000 0x1CEBFF18 0x010100C0FF008232
    ∷ full (10100000 + gap + 1) 0x1CEBFF18 0x02C064FFFFFFFFFF
    ∷ [])
    (emitted (10100000 + gap + 1) (of_source expired 23 129029) ∷ emitted (10100000 + gap + 1) (can_frame 0x18EEFF64 0x0100C0FF008232C0) ∷ [])

-- a request to another device isn't answered
abbrev pub RequestToAnother : Type 0
RequestToAnother =
    IsSilent two_devices 10000000 (tick 10000000 ∷ frame 10001000 (record { id = 0x18EA1817; held = 0x00 ∷ 0xEE ∷ 0x00 ∷ [] }) ∷ [])

-- a claim from address 255 leaves the NAME its address
abbrev pub ClaimOfAll : Type 0
ClaimOfAll =
    Emits two_devices 10000000
    (full 10002000 0x18EEFFFF 0x0500C0FF008C78C0 ∷ full 10003000 0x09F11217 0x005C3DFF7FFF7FFC ∷ [])
    (emitted 10002000 (of_source claim_or_request_malformed 255 60928)
    ∷ emitted 10003000 (navd (codes "s:II0001,n:1*01") (codes "$HEHDT,90.0,T*16"))
    ∷ [])

-- a NAME that takes an address, of which nothing was heard yet, keeps nobody back, whatever the earlier holder said
abbrev pub NewHolder : Type 0
NewHolder =
    Emits two_devices 1000000
    (full 1000000 0x09F11217 0x005C3DFF7FFF7FFC
    ∷ full 1100000 0x18EEFF17 0x0200C0FF00823280
    ∷ full 1200000 0x09F11218 0x006D3DFF7FFF7FFC
    ∷ [])
    (emitted 1000000 (navd (codes "s:II0001,n:1*01") (codes "$HEHDT,90.0,T*16"))
    ∷ emitted 1200000 (navd (codes "s:II0001,n:2*02") (codes "$HEHDT,90.1,T*17"))
    ∷ [])

-- ---- fast packets (canboat)

-- a frame 0 of seven bytes opens nothing
abbrev pub CutOpener : Type 0
CutOpener =
    Emits two_devices 1000000
    (frame 1000000 (record { id = 0x0DF80517; held = 0x00 ∷ 0x2B ∷ 0x00 ∷ 0xDB ∷ 0x4C ∷ 0x00 ∷ 0x08 ∷ [] }) ∷ fix 1001000 23 1 ∷ [])
    (emitted 1000000 (of_source fast_length 23 129029) ∷ emitted 1001000 (of_source fast_orphan 23 129029) ∷ [])

-- a message of one frame that is too short for its fields comes while another is open
abbrev pub ShortWhileOpen : Type 0
ShortWhileOpen =
    Emits two_devices 1000000
    (fix 1000000 23 0 ∷ full 1001000 0x0DF80517 0x0005DB4C0008AFFF ∷ [])
    (emitted 1001000 (of_source restarted 23 129029) ∷ emitted 1001000 (of_source short_message 23 129029) ∷ [])

-- what wasn't sent before the gateway was ready isn't counted: the first fast packet has the sequence 0
abbrev pub UnsentUncounted : Type 0
UnsentUncounted =
    Emits two_devices 10000000
    (tick 10000000
    ∷ datagram (when_ready - 1) (header ++ lined (codes "s:II0002,n:1*02") (codes "$VWVLW,1.00,N,0.50,N*48"))
    ∷ datagram when_ready (header ++ lined (codes "s:II0002,n:1*02") (codes "$VWVLW,1.00,N,0.50,N*48"))
    ∷ [])
    (emitted (when_ready - 1) (broken not_ready (detail.At 6))
    ∷ emitted when_ready (can_frame 0x19F513FB 0x000EFFFFFFFFFFFF)
    ∷ emitted when_ready (can_frame 0x19F513FB 0x013C0700009E0300)
    ∷ emitted when_ready (can_frame 0x19F513FB 0x0200FFFFFFFFFFFF)
    ∷ [])

-- ---- the transport protocol (ISO 11783-3)

-- a position fix to the gateway, behind whose last packet its sender gives up: it is said once
abbrev pub GivenUpBehind : Type 0
GivenUpBehind =
    Emits two_devices 10000000
    (tick 10000000
    ∷ full when_ready 0x1CECFB17 0x102B0007FF05F801
    ∷ full (when_ready + 1000) 0x1CEBFB17 0x0100DB4C0008AF2F
    ∷ full (when_ready + 2000) 0x1CEBFB17 0x0200000000000000
    ∷ full (when_ready + 3000) 0x1CEBFB17 0x0308000000000000
    ∷ full (when_ready + 4000) 0x1CEBFB17 0x040002E0AEBB0000
    ∷ full (when_ready + 5000) 0x1CEBFB17 0x0500000010FC0969
    ∷ full (when_ready + 6000) 0x1CEBFB17 0x0600FF7FF4060000
    ∷ full (when_ready + 7000) 0x1CEBFB17 0x0700FFFFFFFFFFFF
    ∷ full (when_ready + 8000) 0x1CECFB17 0xFF01FFFFFF05F801
    ∷ full (when_ready + 9000) 0x1CECFB17 0x110708FFFF05F801
    ∷ [])
    (emitted when_ready (can_frame 0x1CEC17FB 0x110701FFFF05F801)
    ∷ emitted (when_ready + 7000) (can_frame 0x1CEC17FB 0x132B0007FF05F801)
    ∷ emitted (when_ready + 7000) (navd (codes "s:II0001,n:1*01") fix_said)
    ∷ [])

-- a request to send that comes again needs no more room than its session has
abbrev pub SessionAgainAtTheLimit : Type 0
SessionAgainAtTheLimit =
    Emits one_slot 10000000
    (tick 10000000
    ∷ full when_ready 0x1CECFB17 0x10F906FFFF05F801
    ∷ full (when_ready + 1000) 0x1CECFB17 0x10F906FFFF05F801
    ∷ [])
    (emitted when_ready (can_frame 0x1CEC17FB 0x110801FFFF05F801)
    ∷ emitted (when_ready + 1000) (of_source restarted 23 129029)
    ∷ emitted (when_ready + 1000) (can_frame 0x1CEC17FB 0x110801FFFF05F801)
    ∷ [])

-- of an address that another NAME takes the fast packets end before the sessions
abbrev pub FastPacketsEndFirst : Type 0
FastPacketsEndFirst =
    Emits two_devices 10000000
    (tick 10000000
    ∷ full when_ready 0x1CECFF17 0x202B0007FF05F801
    ∷ log (when_ready + 1000) 23
    ∷ full (when_ready + 2000) 0x18EEFF17 0x0200C0FF00823280
    ∷ [])
    (emitted (when_ready + 2000) (of_source claim_lost 23 128275) ∷ emitted (when_ready + 2000) (of_source claim_lost 23 129029) ∷ [])

-- a session to the gateway ends once where its sender goes to another address
abbrev pub LeftOnce : Type 0
LeftOnce =
    Emits exchanged 10000000
    (tick 10000000
    ∷ full when_ready 0x1CECFB18 0x10F906FFFF05F801
    ∷ full (when_ready + 1000) 0x18EEFF17 0x0500C0FF008C78C0
    ∷ [])
    (emitted when_ready (can_frame 0x1CEC18FB 0x110801FFFF05F801) ∷ emitted (when_ready + 1000) (of_source claim_lost 24 129029) ∷ [])

-- ---- groups of lines (IEC 61162-450)

abbrev pub one_group : Settings
one_group = record two_devices { group_slots = 1 }

-- a first line that comes again needs no more room than its group has
abbrev pub GroupAgainAtTheLimit : Type 0
GroupAgainAtTheLimit =
    Emits one_group 10000000
    (tick 10000000
    ∷ datagram when_ready (header ++ lined (codes "g:1-2-7,s:II0002,n:1*47") (codes "$HEHDT,90.0,T*16"))
    ∷ datagram (when_ready + 10000) (header ++ lined (codes "g:1-2-7,s:II0002,n:1*47") (codes "$HEHDT,90.1,T*17"))
    ∷ datagram (when_ready + 20000) (header ++ lined (codes "g:2-2-7,s:II0002,n:2*47") (codes "$HEHDT,90.0,T*16"))
    ∷ [])
    (emitted (when_ready + 10000) (broken group_order (detail.GroupKey (codes "II0002") 7))
    ∷ emitted (when_ready + 20000) (can_frame 0x09F112FB 0xFF6D3DFF7FFF7FFC)
    ∷ emitted (when_ready + 20000) (can_frame 0x09F112FB 0xFF5C3DFF7FFF7FFC)
    ∷ [])
