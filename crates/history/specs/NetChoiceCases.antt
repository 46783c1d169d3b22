-- Which source of the network is sent on (each reading counts, sent on or not).
use Rattle.std.specs.Prelude.{◌+◌, ◌-◌, [], ◌∷◌, ◌++◌, codes}
use Rattle.gate_events.specs.declared.emit.Detail.TheVariants as detail
use Rattle.datagram450.specs.Datagram.{header}
use Rattle.report_rules.specs.Rules.{not_ready}
use Rattle.history.specs.Entries.{datagram, tick}
use Rattle.history.specs.Settings.{Settings}
use Rattle.history.specs.Emits.{broken}
use Rattle.history.specs.Cases.{Emits, can_frame, emitted, lined, two_devices, when_ready}

-- three sources in this order of preference
abbrev pub listed : Settings
listed = record two_devices { net_sources = codes "II0002" ∷ codes "II0003" ∷ codes "II0004" ∷ [] }

-- the first source is sent on, and the second one only once the first has been silent for more than 5 seconds
abbrev pub FirstListed : Type 0
FirstListed =
    Emits listed 10000000
    (tick 10000000
    ∷ datagram when_ready (header ++ lined (codes "s:II0003,n:1*03") (codes "$HEHDT,90.0,T*16"))
    ∷ datagram (when_ready + 10000) (header ++ lined (codes "s:II0002,n:1*02") (codes "$HEHDT,90.1,T*17"))
    ∷ datagram (when_ready + 20000) (header ++ lined (codes "s:II0003,n:1*03") (codes "$HEHDT,90.0,T*16"))
    ∷ datagram (when_ready + 5010000) (header ++ lined (codes "s:II0003,n:1*03") (codes "$HEHDT,90.0,T*16"))
    ∷ datagram (when_ready + 5010001) (header ++ lined (codes "s:II0003,n:1*03") (codes "$HEHDT,90.0,T*16"))
    ∷ [])
    (emitted when_ready (can_frame 0x09F112FB 0xFF5C3DFF7FFF7FFC)
    ∷ emitted (when_ready + 10000) (can_frame 0x09F112FB 0xFF6D3DFF7FFF7FFC)
    ∷ emitted (when_ready + 5010001) (can_frame 0x09F112FB 0xFF5C3DFF7FFF7FFC)
    ∷ [])

-- a reading counts as heard where it is not sent on: the second source keeps the third one back
abbrev pub HeardWhileSilent : Type 0
HeardWhileSilent =
    Emits listed 10000000
    (tick 10000000
    ∷ datagram when_ready (header ++ lined (codes "s:II0002,n:1*02") (codes "$HEHDT,90.0,T*16"))
    ∷ datagram (when_ready + 1000000) (header ++ lined (codes "s:II0003,n:1*03") (codes "$HEHDT,90.1,T*17"))
    ∷ datagram (when_ready + 5000001) (header ++ lined (codes "s:II0004,n:1*04") (codes "$HEHDT,90.1,T*17"))
    ∷ datagram (when_ready + 6000001) (header ++ lined (codes "s:II0004,n:1*04") (codes "$HEHDT,90.1,T*17"))
    ∷ [])
    (emitted when_ready (can_frame 0x09F112FB 0xFF5C3DFF7FFF7FFC)
    ∷ emitted (when_ready + 6000001) (can_frame 0x09F112FB 0xFF6D3DFF7FFF7FFC)
    ∷ [])

-- and where the gateway can't send yet
abbrev pub HeardBeforeReady : Type 0
HeardBeforeReady =
    Emits listed 10000000
    (tick 10000000
    ∷ datagram (when_ready - 1) (header ++ lined (codes "s:II0002,n:1*02") (codes "$HEHDT,90.0,T*16"))
    ∷ datagram when_ready (header ++ lined (codes "s:II0003,n:1*03") (codes "$HEHDT,90.1,T*17"))
    ∷ [])
    (emitted (when_ready - 1) (broken not_ready (detail.At 6))
    ∷ [])

-- a source that says that it has no heading is sent on, and keeps nobody back
abbrev pub NothingToSay : Type 0
NothingToSay =
    Emits listed 10000000
    (tick 10000000
    ∷ datagram when_ready (header ++ lined (codes "s:II0002,n:1*02") (codes "$HEHDT,,T*01"))
    ∷ datagram (when_ready + 10000) (header ++ lined (codes "s:II0003,n:1*03") (codes "$HEHDT,90.1,T*17"))
    ∷ [])
    (emitted when_ready (can_frame 0x09F112FB 0xFFFFFFFF7FFF7FFC)
    ∷ emitted (when_ready + 10000) (can_frame 0x09F112FB 0xFF6D3DFF7FFF7FFC)
    ∷ [])

-- lines of one datagram are heard in their order
abbrev pub SameDatagram : Type 0
SameDatagram =
    Emits listed 10000000
    (tick 10000000
    ∷ datagram when_ready (header ++ lined (codes "s:II0002,n:1*02") (codes "$HEHDT,90.0,T*16") ++ lined (codes "s:II0003,n:1*03") (codes "$HEHDT,90.1,T*17"))
    ∷ [])
    (emitted when_ready (can_frame 0x09F112FB 0xFF5C3DFF7FFF7FFC)
    ∷ [])
