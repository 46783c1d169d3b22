-- What is counted as said and as sent (IEC 61162-450; fast packets by canboat's tables).
use Rattle.std.specs.Prelude.{ℕ, ◌+◌, List, [], ◌∷◌, ◌++◌, map, codes}
use Rattle.readings.specs.declared.rows.Row.{Row}
use Rattle.readings.specs.declared.rows.Row.TheVariants as row
use Rattle.datagram450.specs.Datagram.{header}
use Rattle.history.specs.Entries.{datagram, tick}
use Rattle.history.specs.Settings.{Settings, RowRule}
use Rattle.gate_events.specs.Emit.{Emit, net}
use Rattle.readings.specs.Rows.{every_row}
use Rattle.history.specs.Cases.{Emits, full, can_frame, emitted, lined, navd, two_devices, plain_rule, when_ready}

-- depths are said on a transmission group of their own
abbrev pub on_satd : Row → RowRule
on_satd row.Depth = record (plain_rule row.Depth) { group = codes "SATD" }
on_satd r = plain_rule r

abbrev pub two_groups : Settings
two_groups = record two_devices { rows = map on_satd every_row }

abbrev pub satd : List ℕ → Emit
satd lines = net (codes "SATD") (header ++ lines)

-- lines are counted on each transmission group by themselves, and groups of lines on all together
abbrev pub EachGroupItsLines : Type 0
EachGroupItsLines =
    Emits two_groups 1000000
    (full 1000000 0x09F11217 0x005C3DFF7FFF7FFC
    ∷ full 1001000 0x0DF50B17 0x00D20400000CFEFF
    ∷ full 1002000 0x09F11217 0x005C3DFF7FFF7FFC
    ∷ full 1003000 0x0DF50B17 0x00D20400000CFEFF
    ∷ [])
    (emitted 1000000 (navd (codes "s:II0001,n:1*01") (codes "$HEHDT,90.0,T*16"))
    ∷ emitted 1001000 (satd (lined (codes "g:1-2-1,s:II0001,n:1*42") (codes "$SDDPT,12.34,-0.50,*67") ++ lined (codes "g:2-2-1,s:II0001,n:2*42") (codes "$SDDBT,40.5,f,12.34,M,6.7,F*32")))
    ∷ emitted 1002000 (navd (codes "s:II0001,n:2*02") (codes "$HEHDT,90.0,T*16"))
    ∷ emitted 1003000 (satd (lined (codes "g:1-2-2,s:II0001,n:3*43") (codes "$SDDPT,12.34,-0.50,*67") ++ lined (codes "g:2-2-2,s:II0001,n:4*47") (codes "$SDDBT,40.5,f,12.34,M,6.7,F*32")))
    ∷ [])

-- fast packets are counted by their PGN
abbrev pub EachMessageItsSequence : Type 0
EachMessageItsSequence =
    Emits two_devices 10000000
    (tick 10000000
    ∷ datagram when_ready (header ++ lined (codes "s:II0002,n:1*02") (codes "$VWVLW,1.00,N,0.50,N*48"))
    ∷ datagram (when_ready + 10000) (header ++ lined (codes "s:II0002,n:1*02") (codes "$GPGGA,,,,,,0,,,,M,,M,,*66"))
    ∷ datagram (when_ready + 20000) (header ++ lined (codes "s:II0002,n:1*02") (codes "$VWVLW,1.00,N,0.50,N*48"))
    ∷ [])
    (emitted when_ready (can_frame 0x19F513FB 0x000EFFFFFFFFFFFF)
    ∷ emitted when_ready (can_frame 0x19F513FB 0x013C0700009E0300)
    ∷ emitted when_ready (can_frame 0x19F513FB 0x0200FFFFFFFFFFFF)
    ∷ emitted (when_ready + 10000) (can_frame 0x0DF805FB 0x002BFFFFFFFFFFFF)
    ∷ emitted (when_ready + 10000) (can_frame 0x0DF805FB 0x01FFFFFFFFFFFFFF)
    ∷ emitted (when_ready + 10000) (can_frame 0x0DF805FB 0x02FF7FFFFFFFFFFF)
    ∷ emitted (when_ready + 10000) (can_frame 0x0DF805FB 0x03FFFF7FFFFFFFFF)
    ∷ emitted (when_ready + 10000) (can_frame 0x0DF805FB 0x04FFFFFF7F00FCFF)
    ∷ emitted (when_ready + 10000) (can_frame 0x0DF805FB 0x05FF7FFF7FFFFFFF)
    ∷ emitted (when_ready + 10000) (can_frame 0x0DF805FB 0x067F00FFFFFFFFFF)
    ∷ emitted (when_ready + 20000) (can_frame 0x19F513FB 0x200EFFFFFFFFFFFF)
    ∷ emitted (when_ready + 20000) (can_frame 0x19F513FB 0x213C0700009E0300)
    ∷ emitted (when_ready + 20000) (can_frame 0x19F513FB 0x2200FFFFFFFFFFFF)
    ∷ [])
