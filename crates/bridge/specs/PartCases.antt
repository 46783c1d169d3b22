-- The parts beside the gateway: who is asked for, RMC, a ship around, the device that a row is taken from, and plain sentences.
use Rattle.std.specs.Prelude.{◌≡◌, ℕ, ◌+◌, ◌-◌, Bool, true, false, List, [], ◌∷◌, ◌++◌, map, Option, Some, None, codes}
use Rattle.report_rules.specs.Rules.{claim_lost, fast_orphan, not_ready, source_changed}
use Rattle.readings.specs.declared.rows.Row.{Row}
use Rattle.readings.specs.declared.rows.Row.TheVariants as row
use Rattle.readings.specs.Rows.{every_row}
use Rattle.datagram450.specs.Datagram.{header}
use Rattle.gate_events.specs.declared.emit.Detail.TheVariants as detail
use Rattle.gate_events.specs.Emit.{Emit, Emitted, net}
use Rattle.history.specs.Cases.{can_frame, emitted, full, lined, navd, started, two_devices, when_ready}
use Rattle.history.specs.ChoiceCases.{ranked}
use Rattle.history.specs.Emits.{broken, of_source}
use Rattle.history.specs.Entries.{Entry, frame}
use Rattle.parts.specs.Compose.{wanted}
use Rattle.further_bridge.specs.FurtherRule.{FurtherRule}
use Rattle.supervision.specs.Supervised.{SupervisionRule}
use Rattle.bridge.specs.Beside.{further}
use Rattle.bridge.specs.Gate.{gate}
use Rattle.bridge.specs.BridgeSettings.{BridgeSettings, none_replaced}

-- a gateway of two devices that says neither RMC nor reports of ships around
abbrev pub alone : BridgeSettings
alone = record { gateway = two_devices; parts = (Some [], (None, (None, further.none))); plain = None; replaced = none_replaced; records = false }

-- one whose product information is ten bytes, which says RMC on RCOM and reports of ships on TGTD
abbrev pub all_parts : BridgeSettings
all_parts = record {
  gateway = two_devices;
  parts = (
    Some (1 ∷ 2 ∷ 3 ∷ 4 ∷ 5 ∷ 6 ∷ 7 ∷ 8 ∷ 9 ∷ 10 ∷ []),
    (
      Some (record { group = codes "RCOM"; talker = codes "GP"; sfi = codes "II0001"; timeouts = map (λ row. 5000) every_row }),
      (Some (record { group = codes "TGTD"; slots = 16 }), further.none),
    ),
  );
  plain = None;
  replaced = none_replaced;
  records = false;
}

-- with further quantities, and with what is told of the devices that rows are taken from, and of the own address
abbrev pub asking : BridgeSettings → Option FurtherRule → Bool → Bool → BridgeSettings
asking p quantities sources address =
    record p { parts = (p.parts.0, (p.parts.1.0, (p.parts.1.1.0, (quantities, (wanted sources, (wanted address, further.none.1.1.1)))))) }

-- with rows under watch, or heartbeats, or both
abbrev pub supervised : BridgeSettings → SupervisionRule → BridgeSettings
supervised p rule =
    let asked = p.parts.1.1.1 in
    record p { parts = (p.parts.0, (p.parts.1.0, (p.parts.1.1.0, (asked.0, (asked.1.0, (asked.1.1.0, (None, (None, (Some rule, further.none.1.1.1.1.1.1))))))))) }

-- they started at this moment, and emit this at the events
abbrev pub PartsEmit : BridgeSettings → ℕ → List Entry → List Emitted → Type 0
PartsEmit p s events after = gate p s events ≡ started s ++ after

abbrev pub AllEmit : List Entry → List Emitted → Type 0
AllEmit events after = PartsEmit all_parts 10000000 events after

-- ---- a request (ISO 11783-3), of three bytes

abbrev pub asks : ℕ → ℕ → ℕ → ℕ → ℕ → Entry
asks moment id a b c = frame moment (record { id = id; held = a ∷ b ∷ c ∷ [] })

-- each answer is the next fast packet
abbrev pub AskedTwice : Type 0
AskedTwice =
    AllEmit (asks when_ready 0x18EAFB17 0x14 0xF0 0x01 ∷ asks (when_ready + 10000) 0x18EAFF18 0x14 0xF0 0x01 ∷ [])
    (emitted when_ready (can_frame 0x19F014FB 0x000A010203040506)
    ∷ emitted when_ready (can_frame 0x19F014FB 0x010708090AFFFFFF)
    ∷ emitted (when_ready + 10000) (can_frame 0x19F014FB 0x200A010203040506)
    ∷ emitted (when_ready + 10000) (can_frame 0x19F014FB 0x210708090AFFFFFF)
    ∷ [])

abbrev pub AskedEarly : Type 0
AskedEarly = AllEmit (asks (when_ready - 1) 0x18EAFB17 0x14 0xF0 0x01 ∷ []) (emitted (when_ready - 1) (of_source not_ready 23 59904) ∷ [])

-- who holds no address is answered, too; without one of its own it hears what goes to all
abbrev pub AskedByNobody : Type 0
AskedByNobody =
    AllEmit (asks when_ready 0x18EAFB19 0x12 0xF1 0x01 ∷ asks (when_ready + 10000) 0x18EAFBFE 0x12 0xF1 0x01 ∷ [])
    (emitted when_ready (can_frame 0x18E819FB 0x01FFFFFFFF12F101) ∷ emitted (when_ready + 10000) (can_frame 0x18E8FFFB 0x01FFFFFFFF12F101) ∷ [])

-- ---- RMC

abbrev pub rcom : List ℕ → List ℕ → Emit
rcom tag sentence = net (codes "RCOM") (header ++ lined tag sentence)

abbrev pub position_said : List ℕ
position_said = codes "$GPGLL,1300.0000,N,18000.0000,W,,A,A*5E"

-- the time is too old at the second position, and at the third the device that said course and speed has lost its address
abbrev pub FieldsComeAndGo : Type 0
FieldsComeAndGo =
    AllEmit
    (full 10000000 0x0DF01017 0x00F0DB4C0008AF2F
    ∷ full 10100000 0x09F80217 0x00FC5C3D0202FFFF
    ∷ full 10200000 0x09F80117 0x79A4BF07002EB694
    ∷ full 15050000 0x09F80117 0x79A4BF07002EB694
    ∷ full 15060000 0x18EEFF17 0x0200C0FF00823280
    ∷ full 15070000 0x09F80118 0x79A4BF07002EB694
    ∷ [])
    (emitted 10000000 (navd (codes "s:II0001,n:1*01") (codes "$GPZDA,221320.00,14,11,2023,00,00*60"))
    ∷ emitted 10100000 (navd (codes "s:II0001,n:2*02") (codes "$GPVTG,90.0,T,,M,9.99,N,18.50,K,A*01"))
    ∷ emitted 10200000 (navd (codes "s:II0001,n:3*03") position_said)
    ∷ emitted 10200000 (rcom (codes "s:II0001,n:1*01") (codes "$GPRMC,221320.00,A,1300.0000,N,18000.0000,W,9.99,90.0,141123,,,A*43"))
    ∷ emitted 15050000 (navd (codes "s:II0001,n:4*04") position_said)
    ∷ emitted 15050000 (rcom (codes "s:II0001,n:2*02") (codes "$GPRMC,,A,1300.0000,N,18000.0000,W,9.99,90.0,,,,A*69"))
    ∷ emitted 15070000 (navd (codes "s:II0001,n:5*05") position_said)
    ∷ emitted 15070000 (rcom (codes "s:II0001,n:3*03") (codes "$GPRMC,,A,1300.0000,N,18000.0000,W,,,,,,A*69"))
    ∷ [])

-- ---- a ship around

abbrev pub ship : ℕ → ℕ → Entry
ship moment bytes = full moment 0x11F80E17 bytes

-- another device wins the sender's address between two frames of a report
abbrev pub ShipAcrossAClaim : Type 0
ShipAcrossAClaim =
    AllEmit
    (ship 10000000 0x001C0100C2EB0B80
    ∷ ship 10010000 0x0196980000000000
    ∷ full 10020000 0x18EEFF17 0x0200C0FF00823280
    ∷ ship 10030000 0x02005C3D02020000
    ∷ [])
    (emitted 10020000 (of_source claim_lost 23 129038) ∷ emitted 10030000 (of_source fast_orphan 23 129038) ∷ [])

-- ---- the device that a row is taken from

abbrev pub watched : BridgeSettings
watched = record (asking all_parts None true false) { gateway = ranked }

abbrev pub taken_from : Row → ℕ → Emit
taken_from row source = broken source_changed (detail.Row row source)

-- of two devices that say the true heading the second one is heard once the first has been silent for more than 2 seconds, or says nothing
abbrev pub FirstOfTwoIsTold : Type 0
FirstOfTwoIsTold =
    PartsEmit watched 100000000
    (full 100000000 0x09F11217 0x005C3DFF7FFF7FFC
    ∷ full 100500000 0x09F11218 0x006D3DFF7FFF7FFC
    ∷ full 102000000 0x09F11218 0x006D3DFF7FFF7FFC
    ∷ full 102000001 0x09F11218 0x006D3DFF7FFF7FFC
    ∷ full 102100000 0x09F11217 0x00FFFFFF7FFF7FFC
    ∷ full 102100001 0x09F11218 0x006D3DFF7FFF7FFC
    ∷ [])
    (emitted 100000000 (navd (codes "s:II0001,n:1*01") (codes "$HEHDT,90.0,T*16"))
    ∷ emitted 100000000 (taken_from row.HeadingTrue 23)
    ∷ emitted 102000001 (navd (codes "s:II0001,n:2*02") (codes "$HEHDT,90.1,T*17"))
    ∷ emitted 102000001 (taken_from row.HeadingTrue 24)
    ∷ emitted 102100000 (navd (codes "s:II0001,n:3*03") (codes "$HEHDT,,T*01"))
    ∷ emitted 102100000 (taken_from row.HeadingTrue 23)
    ∷ emitted 102100001 (navd (codes "s:II0001,n:4*04") (codes "$HEHDT,90.1,T*17"))
    ∷ emitted 102100001 (taken_from row.HeadingTrue 24)
    ∷ [])

-- the first device claims another address, from which it is the same; each row has a device of its own
abbrev pub AddressIsNoChange : Type 0
AddressIsNoChange =
    PartsEmit watched 100000000
    (full 100000000 0x09F11217 0x005C3DFF7FFF7FFC
    ∷ full 100100000 0x18EEFF1E 0x0500C0FF008C78C0
    ∷ full 100200000 0x09F1121E 0x005C3DFF7FFF7FFC
    ∷ full 100300000 0x09F11318 0x006494FEFFFFFFFF
    ∷ full 102200001 0x09F11218 0x006D3DFF7FFF7FFC
    ∷ [])
    (emitted 100000000 (navd (codes "s:II0001,n:1*01") (codes "$HEHDT,90.0,T*16"))
    ∷ emitted 100000000 (taken_from row.HeadingTrue 23)
    ∷ emitted 100200000 (navd (codes "s:II0001,n:2*02") (codes "$HEHDT,90.0,T*16"))
    ∷ emitted 100300000 (navd (codes "s:II0001,n:3*03") (codes "$TIROT,-10.0,A*27"))
    ∷ emitted 100300000 (taken_from row.RateOfTurn 24)
    ∷ emitted 102200001 (navd (codes "s:II0001,n:4*04") (codes "$HEHDT,90.1,T*17"))
    ∷ emitted 102200001 (taken_from row.HeadingTrue 24)
    ∷ [])

-- ---- plain sentences

abbrev pub plain_parts : BridgeSettings
plain_parts = record (asking all_parts None true false) { plain = Some (record { group = codes "PLAN"; every = 0 }) }

abbrev pub ended : List ℕ → List ℕ
ended sentence = sentence ++ 13 ∷ 10 ∷ []

abbrev pub plain : List ℕ → Emit
plain sentences = net (codes "PLAN") sentences

-- both sentences of a datagram go out as one
abbrev pub TwoSentences : Type 0
TwoSentences =
    PartsEmit plain_parts 10000000 (full 10000000 0x0DF50B17 0x00D20400000CFEFF ∷ [])
    (emitted 10000000 (net (codes "NAVD") (header ++ (lined (codes "g:1-2-1,s:II0001,n:1*42") (codes "$SDDPT,12.34,-0.50,*67")
    ++ lined (codes "g:2-2-1,s:II0001,n:2*42") (codes "$SDDBT,40.5,f,12.34,M,6.7,F*32"))))
    ∷ emitted 10000000 (taken_from row.Depth 23)
    ∷ emitted 10000000 (plain (ended (codes "$SDDPT,12.34,-0.50,*67") ++ ended (codes "$SDDBT,40.5,f,12.34,M,6.7,F*32")))
    ∷ [])

-- a position and RMC go out behind what is told of the position's device
abbrev pub PlainComesLast : Type 0
PlainComesLast =
    PartsEmit plain_parts 10000000 (full 10000000 0x09F80117 0x79A4BF07002EB694 ∷ [])
    (emitted 10000000 (navd (codes "s:II0001,n:1*01") position_said)
    ∷ emitted 10000000 (rcom (codes "s:II0001,n:1*01") (codes "$GPRMC,,A,1300.0000,N,18000.0000,W,,,,,,A*69"))
    ∷ emitted 10000000 (taken_from row.Position 23)
    ∷ emitted 10000000 (plain (ended position_said))
    ∷ emitted 10000000 (plain (ended (codes "$GPRMC,,A,1300.0000,N,18000.0000,W,,,,,,A*69")))
    ∷ [])
