-- Heartbeats beside the gateway: HBT (IEC 61162-1) and the frame of PGN 126993 at their due moments, and what an address that goes makes of them.
use Rattle.std.specs.Prelude.{◌≡◌, ℕ, Bool, true, false, List, [], ◌∷◌, ◌++◌, Option, Some, None, codes}
use Rattle.datagram450.specs.Datagram.{header}
use Rattle.gate_events.specs.Emit.{Emit, net}
use Rattle.report_rules.specs.Rules.{row_watched}
use Rattle.readings.specs.declared.rows.Row.TheVariants as row
use Rattle.gate_events.specs.declared.emit.Detail.TheVariants as detail
use Rattle.history.specs.Cases.{can_frame, emitted, full, lined, navd}
use Rattle.history.specs.Emits.{broken}
use Rattle.history.specs.Entries.{tick}
use Rattle.history.specs.OwnCases.{fixed, fixed_start}
use Rattle.settings.specs.declared.heartbeat.NetHeartbeat.{NetHeartbeat}
use Rattle.row_watch.specs.WatchRule.{WatchRule}
use Rattle.bridge.specs.BridgeSettings.{BridgeSettings}
use Rattle.bridge.specs.Gate.{gate}
use Rattle.bridge.specs.PartCases.{PartsEmit, alone, supervised}

abbrev pub beating : Option NetHeartbeat → Option ℕ → BridgeSettings
beating on_net on_bus = supervised alone (record { watch = None; beats = Some (record { net = on_net; bus_every_s = on_bus }) })

-- HBT on MISC, so many seconds one after the other
abbrev pub hbt_each : ℕ → Option NetHeartbeat
hbt_each every = Some (record { group = codes "MISC"; every_s = every; talker = codes "II" })

abbrev pub misc : List ℕ → List ℕ → Emit
misc tag sentence = net (codes "MISC") (header ++ lined tag sentence)

-- none at the start, one for several due moments, and each interval has its own grid
abbrev pub EachOnItsGrid : Type 0
EachOnItsGrid =
    PartsEmit (beating (hbt_each 60) (Some 60)) 1000000 (tick 1000000 ∷ tick 60999999 ∷ tick 200000000 ∷ tick 240999999 ∷ tick 241000000 ∷ [])
    (emitted 200000000 (misc (codes "s:II0001,n:1*01") (codes "$IIHBT,60.0,A,0*1B"))
    ∷ emitted 200000000 (can_frame 0x1DF011FB 0xFFFF00FFFFFFFFFF)
    ∷ emitted 241000000 (misc (codes "s:II0001,n:2*02") (codes "$IIHBT,60.0,A,1*1A"))
    ∷ emitted 241000000 (can_frame 0x1DF011FB 0xFFFF01FFFFFFFFFF)
    ∷ [])

-- the gateway moves 100 ms before a due moment: the frame that was due then is neither sent later nor counted
abbrev pub NotReadyNotCounted : Type 0
NotReadyNotCounted =
    PartsEmit (beating None (Some 1)) 1000000
    (tick 1000000 ∷ full 1900000 0x18EEFFFB 0x0200C0FF00823280 ∷ tick 2000000 ∷ tick 2150000 ∷ tick 3000000 ∷ tick 4000000 ∷ [])
    (emitted 1900000 (can_frame 0x18EEFF00 0x0100C0FF008232C0)
    ∷ emitted 3000000 (can_frame 0x1DF01100 0xFFFF00FFFFFFFFFF)
    ∷ emitted 4000000 (can_frame 0x1DF01100 0xFFFF01FFFFFFFFFF)
    ∷ [])

-- without an address HBT says V, and no frame goes
abbrev pub NoAddressIsTold : Type 0
NoAddressIsTold =
    gate (record (beating (hbt_each 1) (Some 1)) { gateway = fixed }) 10000000 (full 10300000 0x18EEFFFB 0x0000000000000000 ∷ tick 11000000 ∷ [])
    ≡ fixed_start ++ (emitted 10300000 (can_frame 0x18EEFFFE 0x0100C0FF00823240)
    ∷ emitted 11000000 (misc (codes "s:II0001,n:1*01") (codes "$IIHBT,1.0,V,0*3B"))
    ∷ [])

-- the true heading has one second: HBT says V at the event at which it falls silent, and A again once it was said
abbrev pub heading_within : ℕ → WatchRule
heading_within limit = record { rows = record { row = row.HeadingTrue; limit = limit } ∷ []; alerts = None; sfi = codes "II0001" }

abbrev pub said_is : Bool → Emit
said_is said = broken row_watched (detail.Watched row.HeadingTrue said)

abbrev pub SilentRowIsTold : Type 0
SilentRowIsTold =
    PartsEmit (supervised alone (record { watch = Some (heading_within 1000); beats = Some (record { net = hbt_each 1; bus_every_s = None }) })) 1000000
    (tick 1000000 ∷ tick 2000000 ∷ tick 3000000 ∷ full 3500000 0x09F11217 0x005C3DFF7FFF7FFC ∷ tick 4000000 ∷ [])
    (emitted 2000000 (misc (codes "s:II0001,n:1*01") (codes "$IIHBT,1.0,A,0*2C"))
    ∷ emitted 3000000 (said_is false)
    ∷ emitted 3000000 (misc (codes "s:II0001,n:2*02") (codes "$IIHBT,1.0,V,1*3A"))
    ∷ emitted 3500000 (navd (codes "s:II0001,n:1*01") (codes "$HEHDT,90.0,T*16"))
    ∷ emitted 3500000 (said_is true)
    ∷ emitted 4000000 (misc (codes "s:II0001,n:3*03") (codes "$IIHBT,1.0,A,2*2E"))
    ∷ [])
