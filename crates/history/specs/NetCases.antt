-- What datagrams from the network give.
use Rattle.std.specs.Prelude.{ℕ, ◌+◌, ◌-◌, true, false, List, [], ◌∷◌, ◌++◌, codes}
use Rattle.gate_events.specs.declared.emit.Detail.TheVariants as detail
use Rattle.datagram450.specs.Datagram.{header}
use Rattle.claim_table.specs.Claims.{claim_wait}
use Rattle.tag_block.specs.GroupRuns.{group_gap}
use Rattle.history.specs.Entries.{datagram, tick}
use Rattle.history.specs.Emits.{broken, of_source}
use Rattle.history.specs.Settings.{Settings}
use Rattle.history.specs.Cases.{Emits, full, can_frame, emitted, lined, two_devices, when_ready}

-- a heading that is well said, one with a wrong sum, and another
abbrev pub three_lines : List ℕ
three_lines =
    header ++ lined (codes "s:II0002,n:1*02") (codes "$HEHDT,90.0,T*16") ++ lined (codes "s:II0002,n:2*00") (codes "$HEHDT,90.0,T*16")
    ++ lined (codes "s:II0002,n:3*00") (codes "$HEHDT,90.1,T*17")

abbrev pub SecondOfThree : Type 0
SecondOfThree =
    Emits two_devices 10000000 (tick 10000000 ∷ datagram when_ready three_lines ∷ [])
    (emitted when_ready (can_frame 0x09F112FB 0xFF5C3DFF7FFF7FFC)
    ∷ emitted when_ready (broken 33 (detail.At 55))
    ∷ emitted when_ready (can_frame 0x09F112FB 0xFF6D3DFF7FFF7FFC)
    ∷ [])

-- a datagram that ends in its header
abbrev pub NoHeader : Type 0
NoHeader = Emits two_devices 10000000 (datagram 10000000 (codes "UdPbC") ∷ []) (emitted 10000000 (broken 30 (detail.At 5)) ∷ [])

abbrev pub one_heading : List ℕ
one_heading = header ++ lined (codes "s:II0002,n:1*02") (codes "$HEHDT,90.0,T*16")

-- a gateway that lost its address sends nothing from the next one for the wait of a claim, and its session is given up
abbrev pub Moved : Type 0
Moved =
    Emits two_devices 10000000
    (tick 10000000
    ∷ full when_ready 0x1CECFB17 0x10F906FFFF05F801
    ∷ full (when_ready + 50000) 0x18EEFFFB 0x0200C0FF00823280
    ∷ datagram (when_ready + 50000 + claim_wait - 1) one_heading
    ∷ datagram (when_ready + 50000 + claim_wait) one_heading
    ∷ [])
    (emitted when_ready (can_frame 0x1CEC17FB 0x110801FFFF05F801)
    ∷ emitted (when_ready + 50000) (of_source 17 23 129029)
    ∷ emitted (when_ready + 50000) (can_frame 0x18EEFF00 0x0100C0FF008232C0)
    ∷ emitted (when_ready + 50000 + claim_wait - 1) (broken 45 (detail.At 6))
    ∷ emitted (when_ready + 50000 + claim_wait) (can_frame 0x09F11200 0xFF5C3DFF7FFF7FFC)
    ∷ [])

-- a group whose second line doesn't come
abbrev pub HalfAGroup : Type 0
HalfAGroup =
    Emits two_devices 10000000
    (tick 10000000 ∷ datagram when_ready (header ++ lined (codes "g:1-2-7,s:II0002,n:1*47") (codes "$HEHDT,90.0,T*16")) ∷ tick (when_ready + group_gap + 1) ∷ [])
    (emitted (when_ready + group_gap + 1) (broken 42 (detail.GroupKey (codes "II0002") 7)) ∷ [])

-- a line of the gateway itself, one for another device, and one of a source that isn't listed
abbrev pub NotHeard : Type 0
NotHeard =
    Emits two_devices 10000000
    (datagram when_ready
    (header ++ lined (codes "s:II0001,n:1*01") (codes "$HEHDT,90.0,T*16") ++ lined (codes "s:II0002,d:II0003*3A") (codes "$HEHDT,90.0,T*16")
    ++ lined (codes "s:II0003,n:1*03") (codes "$HEHDT,90.0,T*16"))
    ∷ [])
    (emitted when_ready (broken 38 (detail.At 6)) ∷ emitted when_ready (broken 39 (detail.At 41)) ∷ emitted when_ready (broken 37 (detail.At 81)) ∷ [])

-- a gateway that lost its address answers no sender either, up to a microsecond before that wait is over
abbrev pub EarlyAfterMove : Type 0
EarlyAfterMove =
    Emits two_devices 10000000
    (tick 10000000 ∷ full 10300000 0x18EEFFFB 0x0200C0FF00823280 ∷ full (10300000 + claim_wait - 1) 0x1CEC0017 0x10F906FFFF05F801 ∷ [])
    (emitted 10300000 (can_frame 0x18EEFF00 0x0100C0FF008232C0) ∷ emitted (10300000 + claim_wait - 1) (of_source 45 23 60416) ∷ [])

-- with room for one group, the first line of another finds none, and its second line then belongs to none
abbrev pub one_slot : Settings
one_slot = record two_devices { group_slots = 1 }

abbrev pub NoRoom : Type 0
NoRoom =
    Emits one_slot 10000000
    (datagram when_ready
    (header ++ lined (codes "g:1-2-7,s:II0002,n:1*47") (codes "$HEHDT,90.0,T*16") ++ lined (codes "g:1-2-8,s:II0002,n:2*4B") (codes "$HEHDT,90.0,T*16"))
    ∷ datagram (when_ready + 10000) (header ++ lined (codes "g:2-2-8,s:II0002,n:3*49") (codes "$HEHDT,90.0,T*16"))
    ∷ [])
    (emitted when_ready (broken 41 (detail.GroupKey (codes "II0002") 8)) ∷ emitted (when_ready + 10000) (broken 40 (detail.GroupKey (codes "II0002") 8)) ∷ [])

-- an RMC gives a position, and a course and a speed, and a DBT nothing, where the one is read and the other isn't
abbrev pub by_choice : Settings
by_choice = record two_devices { optional_sentences = record { rmc = true; dbt = false } }

abbrev pub fix_and_depth : List ℕ
fix_and_depth =
    header ++ lined (codes "s:II0002,n:1*02") (codes "$GPRMC,,A,1300.0000,N,18000.0000,W,9.99,90.0,,,,A*69")
    ++ lined (codes "s:II0002,n:2*01") (codes "$SDDBT,40.5,f,12.34,M,6.7,F*32")

abbrev pub RmcWithoutDbt : Type 0
RmcWithoutDbt =
    Emits by_choice 10000000 (tick 10000000 ∷ datagram when_ready fix_and_depth ∷ [])
    (emitted when_ready (can_frame 0x09F801FB 0x80A4BF07002EB694) ∷ emitted when_ready (can_frame 0x09F802FB 0xFFFC5C3D0202FFFF) ∷ [])

-- and the other way round without these keys
abbrev pub DbtWithoutRmc : Type 0
DbtWithoutRmc =
    Emits two_devices 10000000 (tick 10000000 ∷ datagram when_ready fix_and_depth ∷ [])
    (emitted when_ready (can_frame 0x0DF50BFB 0xFFD2040000FF7FFF) ∷ [])
