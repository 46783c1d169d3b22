-- The gateway's own address (ISO 11783-5), and what is for it.
use Rattle.std.specs.Prelude.{◌≡◌, ◌+◌, ◌-◌, List, [], ◌∷◌, ◌++◌, codes}
use Rattle.gate_events.specs.declared.emit.Detail.TheVariants as detail
use Rattle.datagram450.specs.Datagram.{header}
use Rattle.report_rules.specs.Rules.{claim_lost, iso_orphan, not_ready, duplicate_name, own_address_used, claim_or_request_malformed}
use Rattle.claim_table.specs.Claims.{claim_wait}
use Rattle.history.specs.Entries.{Entry, frame, datagram, tick}
use Rattle.history.specs.Settings.{Settings}
use Rattle.gate_events.specs.Emit.{Emitted, can}
use Rattle.history.specs.Emits.{broken, of_source}
use Rattle.history.specs.Gate.{gate}
use Rattle.history.specs.Cases.{Emits, full, can_frame, emitted, lined, two_devices, when_ready}

-- a gateway whose NAME doesn't let it go to another address by itself, and what its start emits
abbrev pub fixed : Settings
fixed = record two_devices { name = 0x40328200FFC00001 }

abbrev pub fixed_start : List Emitted
fixed_start =
    emitted 10000000 (can_frame 0x18EEFFFB 0x0100C0FF00823240) ∷ emitted 10000000 (can (record { id = 0x18EAFFFB; held = 0x00 ∷ 0xEE ∷ 0x00 ∷ [] })) ∷ []

abbrev pub FixedEmits : List Entry → List Emitted → Type 0
FixedEmits events after = gate fixed 10000000 events ≡ fixed_start ++ after

-- a command that is obeyed gives up the sessions to the old address; what comes to it afterwards isn't for the gateway
abbrev pub CommandedAway : Type 0
CommandedAway =
    Emits two_devices 10000000
    (tick 10000000
    ∷ full when_ready 0x1CECFB17 0x10F906FFFF05F801
    ∷ full (when_ready + 1000) 0x1CEBFB17 0x0100DB4C0008AF2F
    ∷ full (when_ready + 10000) 0x1CECFF18 0x20090002FFD8FE00
    ∷ full (when_ready + 11000) 0x1CEBFF18 0x010100C0FF008232
    ∷ full (when_ready + 12000) 0x1CEBFF18 0x02C064FFFFFFFFFF
    ∷ full (when_ready + 40000) 0x1CEBFB17 0x0200000000000000
    ∷ [])
    (emitted when_ready (can_frame 0x1CEC17FB 0x110801FFFF05F801)
    ∷ emitted (when_ready + 12000) (of_source claim_lost 23 129029)
    ∷ emitted (when_ready + 12000) (can_frame 0x18EEFF64 0x0100C0FF008232C0)
    ∷ [])

-- nor does a session go on at an address to which the gateway came back
abbrev pub ThereAndBack : Type 0
ThereAndBack =
    Emits two_devices 10000000
    (tick 10000000
    ∷ full when_ready 0x1CECFB17 0x10F906FFFF05F801
    ∷ full (when_ready + 1000) 0x1CEBFB17 0x0100DB4C0008AF2F
    ∷ full (when_ready + 10000) 0x1CECFF18 0x20090002FFD8FE00
    ∷ full (when_ready + 11000) 0x1CEBFF18 0x010100C0FF008232
    ∷ full (when_ready + 12000) 0x1CEBFF18 0x02C064FFFFFFFFFF
    ∷ full (when_ready + 20000) 0x1CECFF18 0x20090002FFD8FE00
    ∷ full (when_ready + 21000) 0x1CEBFF18 0x010100C0FF008232
    ∷ full (when_ready + 22000) 0x1CEBFF18 0x02C0FBFFFFFFFFFF
    ∷ full (when_ready + 40000) 0x1CEBFB17 0x0200000000000000
    ∷ [])
    (emitted when_ready (can_frame 0x1CEC17FB 0x110801FFFF05F801)
    ∷ emitted (when_ready + 12000) (of_source claim_lost 23 129029)
    ∷ emitted (when_ready + 12000) (can_frame 0x18EEFF64 0x0100C0FF008232C0)
    ∷ emitted (when_ready + 22000) (can_frame 0x18EEFFFB 0x0100C0FF008232C0)
    ∷ emitted (when_ready + 40000) (of_source iso_orphan 23 60160)
    ∷ [])

-- nor where it had no address meanwhile
abbrev pub ByWayOfNone : Type 0
ByWayOfNone =
    FixedEmits
    (tick 10000000
    ∷ full when_ready 0x1CECFB17 0x10F906FFFF05F801
    ∷ full (when_ready + 1000) 0x1CEBFB17 0x0100DB4C0008AF2F
    ∷ full (when_ready + 2000) 0x18EEFFFB 0x0200000000000000
    ∷ full (when_ready + 3000) 0x18EEFF0A 0x0200000000000000
    ∷ full (when_ready + 10000) 0x1CECFF18 0x20090002FFD8FE00
    ∷ full (when_ready + 11000) 0x1CEBFF18 0x010100C0FF008232
    ∷ full (when_ready + 12000) 0x1CEBFF18 0x0240FBFFFFFFFFFF
    ∷ full (when_ready + 40000) 0x1CEBFB17 0x0200000000000000
    ∷ [])
    (emitted when_ready (can_frame 0x1CEC17FB 0x110801FFFF05F801)
    ∷ emitted (when_ready + 2000) (of_source claim_lost 23 129029)
    ∷ emitted (when_ready + 2000) (can_frame 0x18EEFFFE 0x0100C0FF00823240)
    ∷ emitted (when_ready + 12000) (can_frame 0x18EEFFFB 0x0100C0FF00823240)
    ∷ emitted (when_ready + 40000) (of_source iso_orphan 23 60160)
    ∷ [])

-- a request for the claims of all is answered from the address that the gateway has
abbrev pub AskedAfterAMove : Type 0
AskedAfterAMove =
    Emits two_devices 10000000
    (tick 10000000
    ∷ full 10001000 0x18EEFFFB 0x0200C0FF00823280
    ∷ frame 10002000 (record { id = 0x18EAFF17; held = 0x00 ∷ 0xEE ∷ 0x00 ∷ [] })
    ∷ [])
    (emitted 10001000 (can_frame 0x18EEFF00 0x0100C0FF008232C0)
    ∷ emitted 10002000 (can_frame 0x18EEFF00 0x0100C0FF008232C0)
    ∷ [])

-- and with cannot claim where it has none
abbrev pub AskedWithoutAddress : Type 0
AskedWithoutAddress =
    FixedEmits
    (tick 10000000
    ∷ full 10001000 0x18EEFFFB 0x0200000000000000
    ∷ frame 10002000 (record { id = 0x18EAFF17; held = 0x00 ∷ 0xEE ∷ 0x00 ∷ [] })
    ∷ [])
    (emitted 10001000 (can_frame 0x18EEFFFE 0x0100C0FF00823240)
    ∷ emitted 10002000 (can_frame 0x18EEFFFE 0x0100C0FF00823240)
    ∷ [])

-- a command that is obeyed makes the gateway wait again
abbrev pub ReadyAfterACommand : Type 0
ReadyAfterACommand =
    Emits two_devices 10000000
    (tick 10000000
    ∷ full 10260000 0x1CECFF18 0x20090002FFD8FE00
    ∷ full 10261000 0x1CEBFF18 0x010100C0FF008232
    ∷ full 10262000 0x1CEBFF18 0x02C064FFFFFFFFFF
    ∷ datagram (10262000 + claim_wait - 1) (header ++ lined (codes "s:II0002,n:1*02") (codes "$HEHDT,90.0,T*16"))
    ∷ datagram (10262000 + claim_wait) (header ++ lined (codes "s:II0002,n:1*02") (codes "$HEHDT,90.0,T*16"))
    ∷ [])
    (emitted 10262000 (can_frame 0x18EEFF64 0x0100C0FF008232C0)
    ∷ emitted (10262000 + claim_wait - 1) (broken not_ready (detail.At 6))
    ∷ emitted (10262000 + claim_wait) (can_frame 0x09F11264 0xFF5C3DFF7FFF7FFC)
    ∷ [])

-- a defence doesn't
abbrev pub DefendedReady : Type 0
DefendedReady =
    Emits two_devices 10000000
    (tick 10000000
    ∷ full (when_ready - 10000) 0x18EEFFFB 0x0500C0FF008C78C0
    ∷ datagram when_ready (header ++ lined (codes "s:II0002,n:1*02") (codes "$HEHDT,90.0,T*16"))
    ∷ [])
    (emitted (when_ready - 10000) (can_frame 0x18EEFFFB 0x0100C0FF008232C0)
    ∷ emitted when_ready (can_frame 0x09F112FB 0xFF5C3DFF7FFF7FFC)
    ∷ [])

-- another device claims by the gateway's NAME, and one speaks from its address
abbrev pub OwnNameElsewhere : Type 0
OwnNameElsewhere =
    Emits two_devices 10000000
    (full 10001000 0x18EEFF1E 0x0100C0FF008232C0
    ∷ full 10002000 0x09F112FB 0x005C3DFF7FFF7FFC
    ∷ [])
    (emitted 10001000 (broken duplicate_name (detail.Address 30))
    ∷ emitted 10002000 (of_source own_address_used 251 127250)
    ∷ [])

-- a claim of seven bytes, one from address 255, by the gateway's NAME too, and a request of two bytes
abbrev pub Malformed : Type 0
Malformed =
    Emits two_devices 10000000
    (frame 10001000 (record { id = 0x18EEFF17; held = 0x05 ∷ 0x00 ∷ 0xC0 ∷ 0xFF ∷ 0x00 ∷ 0x8C ∷ 0x78 ∷ [] })
    ∷ full 10002000 0x18EEFFFF 0x0500C0FF008C78C0
    ∷ full 10003000 0x18EEFFFF 0x0100C0FF008232C0
    ∷ frame 10004000 (record { id = 0x18EAFF17; held = 0x00 ∷ 0xEE ∷ [] })
    ∷ [])
    (emitted 10001000 (of_source claim_or_request_malformed 23 60928)
    ∷ emitted 10002000 (of_source claim_or_request_malformed 255 60928)
    ∷ emitted 10003000 (of_source claim_or_request_malformed 255 60928)
    ∷ emitted 10004000 (of_source claim_or_request_malformed 23 59904)
    ∷ [])
