-- What is promised of all that a gateway keeps: it stands for everything that ever came, and so gives exactly what the definition over the
-- whole history says.
use Rattle.std.specs.Prelude.{◌≡◌, ℕ, ◌<◌, ◌≤◌, [], ◌∷◌, None, option_map, IfSome, is_some, length, if◌then◌else◌}
use Rattle.claim_table.specs.Claims.{places}
use Rattle.history.specs.Settings.{Settings, receiver_of}
use Rattle.history.specs.Entries as entry
use Rattle.history.specs.Entries.{Entry, History, IsHistory, IsOffered, now, is_accepted}
use Rattle.history.specs.EntryLaws.{IsEvent}
use Rattle.report_rules.specs.Rules as rules
use Rattle.gate_events.specs.declared.emit.Detail.TheVariants as detail
use Rattle.history.specs.Messages.{done}
use Rattle.history.specs.Emits.{broken, is_there}
use Rattle.history.specs.FromBus.{said_at}
use Rattle.history.specs.Gate.{out, expired}
use Rattle.history.specs.AddressLaws.{AreSettings}
use Rattle.history.specs.FitLaws.{IsWithinLimits}
use Rattle.gate_model.specs.Said.{complete_of}
use Rattle.gate_model.specs.Machine.{Compared, Machine, Step, gives, opened_machine, started_at, later, overdue}
use Rattle.gate_model.specs.MachineSteps.{stepped, entered, commanded}
use Rattle.gate_model.specs.Stands.{AreOrders, StandsAt, Stands, IsReached}

-- ---- the start

-- a gateway that was opened stands for that nothing came, whenever it starts
abbrev pub OpeningStands : Type 0
OpeningStands = (o : Compared) (c : Settings) (s : ℕ) → AreSettings c → Stands o c s [] (started_at s (opened_machine c))

-- ---- time

pub record TimePasses (o : Compared) (c : Settings) (s : ℕ) (h : History) (m : ℕ) (g : Machine) : Type 0 where
  pub stands : StandsAt o c s h m (later m g)
  pub told : overdue m g ≡ expired c s h m

abbrev pub TimeStands : Type 0
TimeStands =
    (o : Compared) (c : Settings) (s : ℕ) (h : History) (m : ℕ) (g : Machine) → AreOrders o → AreSettings c → IsHistory h → now h ≤ m
    → Stands o c s h g → TimePasses o c s h m g

-- ---- each entry: it leaves what stands for the history with it, emits what the definition says, with a datagram behind where the message is
-- selected that it completes, and completes the message that the definition says

module _ (o : Compared) (c : Settings) (s : ℕ) (h : History) (e : Entry) (x : Step) where
  pub record IsStepOf : Type 0 where
    pub stands : Stands o c s (e ∷ h) x.after
    pub emits : gives x ≡ out c s h e
    pub selected : is_there x.posted ≡ is_some (said_at c s h e)
    pub complete : x.complete ≡ option_map complete_of (done (receiver_of c) s h e)

abbrev pub EntriesStand : Type 0
EntriesStand =
    (o : Compared) (c : Settings) (s : ℕ) (h : History) (e : Entry) (g : Machine) → AreOrders o → AreSettings c → IsHistory (e ∷ h)
    → Stands o c s h g → IsStepOf o c s h e (entered o g e)

-- a command comes at the moment of the last entry
abbrev pub CommandsStand : Type 0
CommandsStand =
    (o : Compared) (c : Settings) (s : ℕ) (h : History) (source address : ℕ) (g : Machine) → AreOrders o → AreSettings c
    → IsHistory (entry.command (now h) source address ∷ h) → Stands o c s h g
    → IsStepOf o c s h (entry.command (now h) source address) (commanded g source address)

-- an event is accepted exactly where it isn't earlier than the last entry
abbrev pub TooEarlyIsTold : Type 0
TooEarlyIsTold =
    (o : Compared) (c : Settings) (s : ℕ) (h : History) (e : Entry) (g : Machine) → Stands o c s h g
    → stepped o g e ≡ (if is_accepted h e then entered o g e else record { after = g; told = broken rules.moment_back detail.Nothing ∷ []; posted = []; complete = None })

-- ---- what was reached is reached again, and all that is emitted finds room

-- a gateway that was opened can be, before and after its start
pub record OpeningReaches (o : Compared) (c : Settings) : Type 0 where
  pub started : (s : ℕ) → IsReached o (started_at s (opened_machine c))
  pub opened : IsReached o (opened_machine c)

abbrev pub OpeningIsReached : Type 0
OpeningIsReached = (o : Compared) (c : Settings) → AreSettings c → IsWithinLimits c → OpeningReaches o c

pub record StepFits (o : Compared) (g : Machine) (e : Entry) : Type 0 where
  pub reached : IsReached o (stepped o g e).after
  -- a datagram that is posted finds room besides, among 4096 places
  pub room : length (stepped o g e).told ≤ 4095
  -- a message that is complete is from an address that can be held
  pub source : IfSome (stepped o g e).complete (λ d. d.source < places)

abbrev pub StepsFit : Type 0
StepsFit =
    (o : Compared) (g : Machine) (e : Entry) → AreOrders o → IsReached o g → IsEvent e → IsOffered e → StepFits o g e

-- so it is with a command, from an address
pub record CommandFits (o : Compared) (g : Machine) (source address : ℕ) : Type 0 where
  pub reached : IsReached o (commanded g source address).after
  pub room : length (commanded g source address).told ≤ 4095

abbrev pub CommandsFit : Type 0
CommandsFit =
    (o : Compared) (g : Machine) (source address : ℕ) → AreOrders o → IsReached o g → source < 256 → CommandFits o g source address
