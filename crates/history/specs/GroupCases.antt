-- Lines of groups (IEC 61162-450).
use Rattle.std.specs.Prelude.{◌+◌, [], ◌∷◌, ◌++◌, codes}
use Rattle.gate_events.specs.declared.emit.Detail.TheVariants as detail
use Rattle.datagram450.specs.Datagram.{header}
use Rattle.report_rules.specs.Rules.{group_order}
use Rattle.history.specs.Entries.{datagram, tick}
use Rattle.history.specs.Emits.{broken}
use Rattle.history.specs.Cases.{Emits, can_frame, emitted, lined, two_devices, when_ready}
use Rattle.history.specs.NetChoiceCases.{listed}

-- nine lines of a group, in order: their sentences are handed over with the last one
abbrev pub NineLines : Type 0
NineLines =
    Emits two_devices 10000000
    (tick 10000000
    ∷ datagram when_ready (header ++ lined (codes "g:1-9-1,s:II0002,n:1*4A") (codes "$HEHDT,90.0,T*16") ++ lined (codes "g:2-9-1,s:II0002,n:2*4A") (codes "$HEHDT,90.0,T*16") ++ lined (codes "g:3-9-1,s:II0002,n:3*4A") (codes "$HEHDT,90.0,T*16") ++ lined (codes "g:4-9-1,s:II0002,n:4*4A") (codes "$HEHDT,90.0,T*16") ++ lined (codes "g:5-9-1,s:II0002,n:5*4A") (codes "$HEHDT,90.0,T*16") ++ lined (codes "g:6-9-1,s:II0002,n:6*4A") (codes "$HEHDT,90.0,T*16") ++ lined (codes "g:7-9-1,s:II0002,n:7*4A") (codes "$HEHDT,90.0,T*16") ++ lined (codes "g:8-9-1,s:II0002,n:8*4A") (codes "$HEHDT,90.0,T*16"))
    ∷ datagram (when_ready + 10000) (header ++ lined (codes "g:9-9-1,s:II0002,n:9*4A") (codes "$HEHDT,90.1,T*17"))
    ∷ [])
    (emitted (when_ready + 10000) (can_frame 0x09F112FB 0xFF5C3DFF7FFF7FFC)
    ∷ emitted (when_ready + 10000) (can_frame 0x09F112FB 0xFF5C3DFF7FFF7FFC)
    ∷ emitted (when_ready + 10000) (can_frame 0x09F112FB 0xFF5C3DFF7FFF7FFC)
    ∷ emitted (when_ready + 10000) (can_frame 0x09F112FB 0xFF5C3DFF7FFF7FFC)
    ∷ emitted (when_ready + 10000) (can_frame 0x09F112FB 0xFF5C3DFF7FFF7FFC)
    ∷ emitted (when_ready + 10000) (can_frame 0x09F112FB 0xFF5C3DFF7FFF7FFC)
    ∷ emitted (when_ready + 10000) (can_frame 0x09F112FB 0xFF5C3DFF7FFF7FFC)
    ∷ emitted (when_ready + 10000) (can_frame 0x09F112FB 0xFF5C3DFF7FFF7FFC)
    ∷ emitted (when_ready + 10000) (can_frame 0x09F112FB 0xFF6D3DFF7FFF7FFC)
    ∷ [])

-- a group of one line is no group: it is handed over at once, beside an open group of its code
abbrev pub AloneInItsGroup : Type 0
AloneInItsGroup =
    Emits two_devices 10000000
    (tick 10000000
    ∷ datagram when_ready (header ++ lined (codes "g:1-2-5,s:II0002,n:1*45") (codes "$HEHDT,90.0,T*16"))
    ∷ datagram (when_ready + 10000) (header ++ lined (codes "g:1-1-5,s:II0002,n:1*46") (codes "$HEHDT,90.1,T*17"))
    ∷ datagram (when_ready + 20000) (header ++ lined (codes "g:2-2-5,s:II0002,n:2*45") (codes "$HEHDT,90.0,T*16"))
    ∷ [])
    (emitted (when_ready + 10000) (can_frame 0x09F112FB 0xFF6D3DFF7FFF7FFC)
    ∷ emitted (when_ready + 20000) (can_frame 0x09F112FB 0xFF5C3DFF7FFF7FFC)
    ∷ emitted (when_ready + 20000) (can_frame 0x09F112FB 0xFF5C3DFF7FFF7FFC)
    ∷ [])

-- a line with another total ends the group
abbrev pub AnotherTotal : Type 0
AnotherTotal =
    Emits two_devices 10000000
    (tick 10000000
    ∷ datagram when_ready (header ++ lined (codes "g:1-3-7,s:II0002,n:1*46") (codes "$HEHDT,90.0,T*16") ++ lined (codes "g:2-2-7,s:II0002,n:2*47") (codes "$HEHDT,90.0,T*16") ++ lined (codes "g:2-3-7,s:II0002,n:2*46") (codes "$HEHDT,90.0,T*16"))
    ∷ [])
    (emitted when_ready (broken group_order (detail.GroupKey (codes "II0002") 7))
    ∷ emitted when_ready (broken group_order (detail.GroupKey (codes "II0002") 7))
    ∷ [])

-- two sources may use one code
abbrev pub SourcesApart : Type 0
SourcesApart =
    Emits listed 10000000
    (tick 10000000
    ∷ datagram when_ready (header ++ lined (codes "g:1-2-7,s:II0002,n:1*47") (codes "$HEHDT,90.0,T*16") ++ lined (codes "g:1-2-7,s:II0003,n:1*46") (codes "$HEHDT,90.1,T*17") ++ lined (codes "g:2-2-7,s:II0002,n:2*47") (codes "$HEHDT,90.0,T*16"))
    ∷ [])
    (emitted when_ready (can_frame 0x09F112FB 0xFF5C3DFF7FFF7FFC)
    ∷ emitted when_ready (can_frame 0x09F112FB 0xFF5C3DFF7FFF7FFC)
    ∷ [])

-- a first line of an open group begins it again
abbrev pub FirstAgain : Type 0
FirstAgain =
    Emits two_devices 10000000
    (tick 10000000
    ∷ datagram when_ready (header ++ lined (codes "g:1-2-7,s:II0002,n:1*47") (codes "$HEHDT,90.0,T*16"))
    ∷ datagram (when_ready + 10000) (header ++ lined (codes "g:1-2-7,s:II0002,n:1*47") (codes "$HEHDT,90.1,T*17"))
    ∷ datagram (when_ready + 20000) (header ++ lined (codes "g:2-2-7,s:II0002,n:2*47") (codes "$HEHDT,90.0,T*16"))
    ∷ [])
    (emitted (when_ready + 10000) (broken group_order (detail.GroupKey (codes "II0002") 7))
    ∷ emitted (when_ready + 20000) (can_frame 0x09F112FB 0xFF6D3DFF7FFF7FFC)
    ∷ emitted (when_ready + 20000) (can_frame 0x09F112FB 0xFF5C3DFF7FFF7FFC)
    ∷ [])
