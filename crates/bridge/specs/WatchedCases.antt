-- A row under watch is told beside the gateway where it falls silent, and where it is said again.
use Rattle.std.specs.Prelude.{ℕ, Bool, true, false, List, [], ◌∷◌, ◌++◌, None, Some, codes}
use Rattle.report_rules.specs.Rules.{row_watched}
use Rattle.readings.specs.declared.rows.Row.TheVariants as row
use Rattle.datagram450.specs.Datagram.{header}
use Rattle.gate_events.specs.declared.emit.Detail.TheVariants as detail
use Rattle.gate_events.specs.Emit.{Emit, net}
use Rattle.history.specs.Cases.{emitted, full, lined, navd}
use Rattle.history.specs.Emits.{broken}
use Rattle.history.specs.Entries.{tick}
use Rattle.row_watch.specs.WatchRule.{WatchRule}
use Rattle.bridge.specs.BridgeSettings.{BridgeSettings}
use Rattle.bridge.specs.PartCases.{PartsEmit, alone, supervised}

-- the true heading, which has two seconds
abbrev pub heading_watched : WatchRule
heading_watched = record {
  rows = record { row = row.HeadingTrue; limit = 2000 } ∷ [];
  alerts = Some (record { group = codes "ALRT"; talker = codes "II" });
  sfi = codes "II0001";
}

abbrev pub watching : BridgeSettings
watching = supervised alone (record { watch = Some heading_watched; beats = None })

abbrev pub said_is : Bool → Emit
said_is said = broken row_watched (detail.Watched row.HeadingTrue said)

abbrev pub alert : List ℕ → List ℕ → Emit
alert tag sentence = net (codes "ALRT") (header ++ lined tag sentence)

-- never said, it is silent after two seconds and a microsecond; a message without a value brings it not back, and one with its value does
abbrev pub SilenceIsTold : Type 0
SilenceIsTold =
    PartsEmit watching 10000000
    (tick 12000000
    ∷ tick 12000001
    ∷ full 12100000 0x09F11217 0x00FFFFFF7FFF7FFC
    ∷ full 12200000 0x09F11217 0x005C3DFF7FFF7FFC
    ∷ tick 14200000
    ∷ [])
    (emitted 12000001 (said_is false)
    ∷ emitted 12000001 (alert (codes "s:II0001,n:1*01") (codes "$IIALR,,101,A,V,heading_true*75"))
    ∷ emitted 12100000 (navd (codes "s:II0001,n:1*01") (codes "$HEHDT,,T*01"))
    ∷ emitted 12200000 (navd (codes "s:II0001,n:2*02") (codes "$HEHDT,90.0,T*16"))
    ∷ emitted 12200000 (said_is true)
    ∷ emitted 12200000 (alert (codes "s:II0001,n:2*02") (codes "$IIALR,,101,V,V,heading_true*62"))
    ∷ [])
