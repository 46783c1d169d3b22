-- How messages end that don't complete.
use Rattle.std.specs.Prelude.{ℕ, ◌+◌, [], ◌∷◌, ◌++◌, codes}
use Rattle.gate_events.specs.declared.emit.Detail.TheVariants as detail
use Rattle.datagram450.specs.Datagram.{header}
use Rattle.report_rules.specs.Rules.{expired, group_expired, claim_lost, fast_orphan, restarted, slots_full}
use Rattle.iso_transport.specs.IsoRuns.{granted_gap}
use Rattle.history.specs.Entries.{Entry, datagram, tick}
use Rattle.history.specs.Settings.{Settings}
use Rattle.history.specs.Emits.{broken, of_source}
use Rattle.history.specs.Cases.{Emits, full, can_frame, emitted, lined, two_devices, with_presets, preset, fix, when_ready}

-- the first frame of a distance log of ten bytes
abbrev pub log : ℕ → ℕ → Entry
log moment source = full moment (0x19F51300 + source) 0x000AFFFFFFFFFFFF

-- both devices, the greater NAME at the lower address
abbrev pub exchanged : Settings
exchanged = with_presets (preset 23 0xC0788C00FFC00006 ∷ preset 24 0xC0788C00FFC00005 ∷ [])

abbrev pub one_slot : Settings
one_slot = record two_devices { fast_slots = 1 }

-- from when on all is overdue that opened when the gateway was ready: the sender of a session waits longest, for its grant
abbrev pub when_overdue : ℕ
when_overdue = when_ready + granted_gap + 1

-- all that is overdue at one moment ends in order: fast packets by source and PGN, sessions to all before those to the gateway, groups
abbrev pub AllAtOnce : Type 0
AllAtOnce =
    Emits two_devices 10000000
    (tick 10000000
    ∷ fix when_ready 24 0
    ∷ fix when_ready 23 0
    ∷ log when_ready 23
    ∷ full when_ready 0x1CECFB17 0x10F906FFFF05F801
    ∷ full when_ready 0x1CECFF18 0x202B0007FF05F801
    ∷ full when_ready 0x1CECFF17 0x202B0007FF05F801
    ∷ datagram when_ready (header ++ lined (codes "g:1-2-8,s:II0002,n:1*48") (codes "$HEHDT,90.0,T*16") ++ lined (codes "g:1-2-7,s:II0002,n:1*47") (codes "$HEHDT,90.0,T*16"))
    ∷ tick when_overdue
    ∷ [])
    (emitted when_ready (can_frame 0x1CEC17FB 0x110801FFFF05F801)
    ∷ emitted when_overdue (of_source expired 23 128275)
    ∷ emitted when_overdue (of_source expired 23 129029)
    ∷ emitted when_overdue (of_source expired 24 129029)
    ∷ emitted when_overdue (of_source expired 23 129029)
    ∷ emitted when_overdue (of_source expired 24 129029)
    ∷ emitted when_overdue (of_source expired 23 129029)
    ∷ emitted when_overdue (can_frame 0x1CEC17FB 0xFF03FFFFFF05F801)
    ∷ emitted when_overdue (broken group_expired (detail.GroupKey (codes "II0002") 7))
    ∷ emitted when_overdue (broken group_expired (detail.GroupKey (codes "II0002") 8))
    ∷ [])

-- a device goes to the address of a greater NAME: what was open of the address that it left ends first, then that of the one that it won
abbrev pub LeftBeforeWon : Type 0
LeftBeforeWon =
    Emits exchanged 10000000
    (tick 10000000
    ∷ fix when_ready 23 0
    ∷ fix (when_ready + 1000) 24 0
    ∷ log (when_ready + 2000) 24
    ∷ full (when_ready + 3000) 0x18EEFF17 0x0500C0FF008C78C0
    ∷ [])
    (emitted (when_ready + 3000) (of_source claim_lost 24 128275)
    ∷ emitted (when_ready + 3000) (of_source claim_lost 24 129029)
    ∷ emitted (when_ready + 3000) (of_source claim_lost 23 129029)
    ∷ [])

-- the address of an opener is taken by the very next frame
abbrev pub TakenAtOnce : Type 0
TakenAtOnce =
    Emits two_devices 1000000
    (fix 1000000 23 0
    ∷ full 1001000 0x18EEFF17 0x0200C0FF00823280
    ∷ fix 1002000 23 1
    ∷ [])
    (emitted 1001000 (of_source claim_lost 23 129029)
    ∷ emitted 1002000 (of_source fast_orphan 23 129029)
    ∷ [])

-- a message that begins again needs no more room than it had
abbrev pub AgainAtTheLimit : Type 0
AgainAtTheLimit =
    Emits one_slot 1000000
    (fix 1000000 23 0
    ∷ fix 1001000 23 0
    ∷ fix 1002000 24 0
    ∷ [])
    (emitted 1001000 (of_source restarted 23 129029)
    ∷ emitted 1002000 (of_source slots_full 24 129029)
    ∷ [])
