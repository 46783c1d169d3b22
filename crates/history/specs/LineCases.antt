-- Lines of datagrams that break a rule (IEC 61162-450; IEC 61162-1).
use Rattle.std.specs.Prelude.{ℕ, zero, suc, ◌+◌, ◌*◌, List, [], ◌∷◌, ◌++◌, codes}
use Rattle.gate_events.specs.declared.emit.Detail.TheVariants as detail
use Rattle.datagram450.specs.Datagram.{header, most_lines}
use Rattle.report_rules.specs.Rules.{line_form, tag_form, no_source, sentence_form, sentence_sum, field_form, field_range, own_line, too_many_lines}
use Rattle.history.specs.Entries.{datagram, tick}
use Rattle.gate_events.specs.Emit.{Emitted}
use Rattle.history.specs.Emits.{broken}
use Rattle.history.specs.Cases.{Emits, emitted, lined, two_devices, when_ready}

-- a rest without its LF; a TAG block without its sum; a line without a TAG block; no sentence; a wrong sum
abbrev pub BadLines : Type 0
BadLines =
    Emits two_devices 10000000
    (tick 10000000
    ∷ datagram when_ready (header ++ codes "x")
    ∷ datagram when_ready (header ++ codes "\\s:II0002\\$HEHDT,90.0,T*16" ++ 13 ∷ 10 ∷ [])
    ∷ datagram when_ready (header ++ codes "$HEHDT,90.0,T*16" ++ 13 ∷ 10 ∷ [])
    ∷ datagram when_ready (header ++ lined (codes "s:II0002*4B") (codes "HEHDT,90.0,T*16"))
    ∷ datagram when_ready (header ++ lined (codes "s:II0002*4B") (codes "$HEHDT,90.0,T*17"))
    ∷ [])
    (emitted when_ready (broken line_form (detail.At 6))
    ∷ emitted when_ready (broken tag_form (detail.At 15))
    ∷ emitted when_ready (broken no_source (detail.At 6))
    ∷ emitted when_ready (broken sentence_form (detail.At 19))
    ∷ emitted when_ready (broken sentence_sum (detail.At 33))
    ∷ [])

-- a heading that is no number, one above the greatest, and a sentence that isn't in the profile
abbrev pub BadFields : Type 0
BadFields =
    Emits two_devices 10000000
    (tick 10000000
    ∷ datagram when_ready (header ++ lined (codes "s:II0002,n:1*02") (codes "$HEHDT,9x.0,T*5E") ++ lined (codes "s:II0002,n:2*01") (codes "$HEHDT,360.1,T*2B") ++ lined (codes "s:II0002,n:3*00") (codes "$HEHDT,90.0,M*0F") ++ lined (codes "s:II0002,n:4*07") (codes "$GPGSV,1,1,00*79"))
    ∷ [])
    (emitted when_ready (broken field_form (detail.AtField 6 1))
    ∷ emitted when_ready (broken field_range (detail.AtField 41 1))
    ∷ emitted when_ready (broken field_form (detail.AtField 77 2))
    ∷ [])

-- a line of the gateway that names another destination is its own line
abbrev pub OwnLineElsewhere : Type 0
OwnLineElsewhere =
    Emits two_devices 10000000
    (tick 10000000
    ∷ datagram when_ready (header ++ lined (codes "s:II0001,d:II0003*39") (codes "$HEHDT,90.0,T*16"))
    ∷ [])
    (emitted when_ready (broken own_line (detail.At 6))
    ∷ [])

abbrev pub times : ℕ → List ℕ → List ℕ
times zero bytes = []
times (suc k) bytes = bytes ++ times k bytes

abbrev pub each_at : ℕ → ℕ → List Emitted
each_at zero place = []
each_at (suc k) place = emitted when_ready (broken no_source (detail.At place)) ∷ each_at k (place + 2)

-- of one line more than are read the last one isn't
abbrev pub OneLineTooMany : Type 0
OneLineTooMany =
    Emits two_devices 10000000 (tick 10000000 ∷ datagram when_ready (header ++ times (most_lines + 1) (120 ∷ 10 ∷ [])) ∷ [])
    (each_at most_lines 6 ++ emitted when_ready (broken too_many_lines (detail.At (6 + 2 * most_lines))) ∷ [])
