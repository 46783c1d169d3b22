-- What is said of single messages: date and time, and two sentences in one datagram.
use Rattle.std.specs.Prelude.{[], ◌∷◌, ◌++◌, codes}
use Rattle.datagram450.specs.Datagram.{header}
use Rattle.gate_events.specs.Emit.{net}
use Rattle.history.specs.Cases.{Emits, full, emitted, lined, navd, bare, two_devices}

-- the time of a device that has claimed its address, with its date as the calendar has it
abbrev pub TimeAfterClaim : Type 0
TimeAfterClaim =
    Emits bare 1700000000000000 (full 1700000000000000 0x18EEFF17 0x0500C0FF008C78C0 ∷ full 1700000000100000 0x0DF01017 0x00F0DB4C0008AF2F ∷ [])
    (emitted 1700000000100000 (navd (codes "s:II0001,n:1*01") (codes "$GPZDA,221320.00,14,11,2023,00,00*60")) ∷ [])

-- a depth is said in two sentences, a group of two lines in one datagram; the next one has the next code and the next counts
abbrev pub TwoSentences : Type 0
TwoSentences =
    Emits two_devices 1000000 (full 1000000 0x0DF50B17 0x00D20400000CFEFF ∷ full 1001000 0x0DF50B17 0x00D20400000CFEFF ∷ [])
    (emitted 1000000
    (net (codes "NAVD")
    (header ++ lined (codes "g:1-2-1,s:II0001,n:1*42") (codes "$SDDPT,12.34,-0.50,*67") ++ lined (codes "g:2-2-1,s:II0001,n:2*42") (codes "$SDDBT,40.5,f,12.34,M,6.7,F*32")))
    ∷ emitted 1001000
    (net (codes "NAVD")
    (header ++ lined (codes "g:1-2-2,s:II0001,n:3*43") (codes "$SDDPT,12.34,-0.50,*67") ++ lined (codes "g:2-2-2,s:II0001,n:4*47") (codes "$SDDBT,40.5,f,12.34,M,6.7,F*32")))
    ∷ [])
