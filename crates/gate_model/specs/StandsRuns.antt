-- What a gateway makes of each event with the command that it completes (ISO 11783-5, commanded address), and of all events one after another,
-- as plain values; and that it is what the definition over the whole history says.
use Rattle.std.specs.Prelude.{◌≡◌, ℕ, List, [], ◌∷◌, ◌++◌, Option, Some, None}
use Rattle.std.specs.List.{AllByRecursion}
use Rattle.history.specs.Settings.{Settings}
use Rattle.history.specs.Entries.{Entry, History, IsHistory, IsOffered}
use Rattle.history.specs.EntryLaws.{IsEvent}
use Rattle.gate_events.specs.Emit.{Emit, Emitted}
use Rattle.history.specs.Emits.{at}
use Rattle.history.specs.Gate as gate
use Rattle.history.specs.AddressLaws.{AreSettings}
use Rattle.gate_model.specs.Said.{Ordered, ordered_by}
use Rattle.gate_model.specs.Machine.{Compared, Machine, Step, gives, opened_machine, started_at}
use Rattle.gate_model.specs.MachineSteps.{stepped, commanded}
use Rattle.gate_model.specs.Stands.{AreOrders, Stands}

-- ---- an event, and then the command that it completes

pub record Turn : Type 0 where
  pub after : Machine
  pub emits : List Emit

abbrev pub with_ordered : Step → Option Ordered → Turn
with_ordered x None = record { after = x.after; emits = gives x }
with_ordered x (Some d) = let y = commanded x.after d.source d.address in record { after = y.after; emits = gives x ++ gives y }

abbrev pub turned : Compared → Machine → Entry → Turn
turned o g e = let x = stepped o g e in with_ordered x (ordered_by g.settings.name x.complete)

-- it stands for the history then, and gives what the history says, at the moment of the last entry
module _ (o : Compared) (c : Settings) (s : ℕ) (x : Turn) (y : gate.Stepped c s) where
  pub record IsTurnOf : Type 0 where
    pub stands : Stands o c s y.after x.after
    pub emits : at x.after.moment x.emits ≡ y.emits

abbrev pub EventsStand : Type 0
EventsStand =
    (o : Compared) (c : Settings) (s : ℕ) (h : History) (e : Entry) (g : Machine) → AreOrders o → AreSettings c → IsHistory h → IsEvent e → IsOffered e
    → Stands o c s h g → IsTurnOf o c s (turned o g e) (gate.stepped c s h e)

-- ---- all events, from the start on

abbrev pub turns : Compared → Machine → List Entry → List Emitted
turns o g [] = []
turns o g (e ∷ events) = let x = turned o g e in at x.after.moment x.emits ++ turns o x.after events

-- events that the outside can offer
abbrev pub AreOffered : List Entry → Type 0
AreOffered events = AllByRecursion (λ e. IsEvent e × IsOffered e) events

abbrev pub RunsStand : Type 0
RunsStand =
    (o : Compared) (c : Settings) (s : ℕ) (events : List Entry) → AreOrders o → AreSettings c → AreOffered events
    → gate.gate c s events ≡ gate.opening c s ++ turns o (started_at s (opened_machine c)) events
