-- That no opener of a device was refused for want of room is that no report of rule 15 came at its frames.
use Rattle.std.specs.Prelude.{◌≡◌, ℕ, Bool, true, false, ◌&&◌, not, ◌==◌, ◌↔◌, List, [], ◌∷◌}
use Rattle.std.specs.List.{list_any}
use Rattle.n2k_id.specs.Frame.{BusFrame}
use Rattle.n2k_id.specs.Identifier.{parts_of}
use Rattle.report_rules.specs.Rules as rules
use Rattle.gate_events.specs.declared.emit.Report.{Report}
use Rattle.history.specs.AddressLaws.{IsReceiver}
use Rattle.history.specs.Entries.{History, frame, datagram, tick, command}
use Rattle.history.specs.Settings.{Receiver}
use Rattle.history.specs.Known.{known}
use Rattle.history.specs.FromBus.{frame_refused}
use Rattle.history.specs.KeyLaws.{the_note}
use Rattle.history.specs.IsolationLaws.{opens_message, NoneRefused}

-- rule 15 is among some reports
abbrev pub says_full : List Report → Bool
says_full reports = list_any (λ r. r.rule == rules.slots_full) reports

-- a frame breaks it exactly where it opens a message and finds no room
abbrev pub FullIsReported : Type 0
FullIsReported =
    (r : Receiver) (s : ℕ) (h : History) (m : ℕ) (f : BusFrame) → IsReceiver r
    → says_full (frame_refused r s h m f)
    ≡ (opens_message r.kinds (known r s h).claims (the_note r s h m f) && not (the_note r s h m f).admitted)

-- no frame from the address broke it
abbrev pub NoneFull : Receiver → ℕ → History → ℕ → Type 0
NoneFull r s [] a = Unit {0}
NoneFull r s (frame m f ∷ h) a = (((parts_of f.id).source == a) ≡ true → says_full (frame_refused r s h m f) ≡ false) × NoneFull r s h a
NoneFull r s (datagram m bytes ∷ h) a = NoneFull r s h a
NoneFull r s (tick m ∷ h) a = NoneFull r s h a
NoneFull r s (command m source address ∷ h) a = NoneFull r s h a

abbrev pub RefusalsAreReported : Type 0
RefusalsAreReported = (r : Receiver) (s : ℕ) (h : History) (a : ℕ) → IsReceiver r → NoneRefused r s h a ↔ NoneFull r s h a
