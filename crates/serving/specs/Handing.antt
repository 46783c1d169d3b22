-- What each call of a turn makes of the bridge and of the outside, whatever came before.
use Rattle.std.specs.Prelude.{◌≡◌, ◌≢◌, ℕ, Bool, List, [], ◌∷◌, ◌++◌, length, Option, Some, option_map, Result, Ok, Err}
use Rattle.n2k_id.specs.declared.frame.Frame.{Frame}
use Rattle.n2k_id.specs.Frame.{bus_frame}
use Rattle.gate_events.specs.declared.emit.Report.{Report}
use Rattle.gate_outside.specs.declared.Failed.{Failed}
use Rattle.gate_outside.specs.Faults.{Rose}
use Rattle.gate_outside.specs.Link.{Outcome}
use Rattle.gate_outside.specs.Told.{Joins}
use Rattle.capture_text.specs.Emitted.{line_of}
use Rattle.gate_events.specs.Emit as emits
use Rattle.gate_events.specs.Event as capture
use Rattle.bridge.specs.Running.{Running, RunningStands}
use Rattle.bridge.specs.BridgeStands.{IsNew}
use Rattle.bridge.specs.Kept.{Bridged}
use Rattle.bridge.specs.BridgeSettings.{BridgeSettings}
use Rattle.serving.specs.Served.{EndsBy, HasReportLine, IsCut, IsFront, NetFits, Outside, Passed, Passes, Stops, Tried, all_due}
use Rattle.serving.specs.Turns.{Arrived, Item, Turned, is_event, turn, with_came}

-- ---- a text is written

-- a part of it was taken before a write failed
pub record Broken (told told' : Option (List ℕ)) (faults faults' : ℕ) (text : List ℕ) : Type 0 where
  pub part : List ℕ
  pub untaken : List ℕ
  pub joins : Joins told told' part
  pub front : part ++ untaken ≡ text
  pub some : untaken ≢ []
  pub rose : Rose faults faults'

abbrev pub Takes : Option (List ℕ) → Option (List ℕ) → ℕ → ℕ → List ℕ → Result (Unit {0}) Failed → Type 0
Takes told told' faults faults' text (Ok done) = Joins told told' text × (faults' ≡ faults)
Takes told told' faults faults' text (Err e) = Broken told told' faults faults' text

-- the line of a report is written, which is one line
abbrev pub WritesReport : ℕ → Report → Option (List ℕ) → Option (List ℕ) → ℕ → ℕ → Result (Unit {0}) Failed → Type 0
WritesReport m r told told' faults faults' result =
    HasReportLine m (emits.report r) × Takes told told' faults faults' (line_of (record { moment = m; emit = emits.report r })) result

-- ---- items go out, in order

abbrev pub passed : List Outcome → List Outcome → List Tried → Passed
passed bus net tried = record { from_bus = bus; from_net = net; tried = tried }

-- all of these went out
pub record HandsAll (old new : Outside) (due : List Item) : Type 0 where
  pub tried : List Tried
  pub passes : Passes old new (passed [] [] tried)
  pub is_due : all_due tried ≡ due

-- the first of these went out, the last of them in part
pub record HandsSome (old new : Outside) (due : List Item) : Type 0 where
  pub tried : List Tried
  pub last : Tried
  pub stops : Stops old new (passed [] [] tried) last
  pub is_front : IsFront (all_due (tried ++ last ∷ [])) due

abbrev pub Hands : Outside → Outside → List Item → Result (Unit {0}) Failed → Type 0
Hands old new due (Ok done) = HandsAll old new due
Hands old new due (Err e) = HandsSome old new due

-- ---- what came is answered, by what came before

abbrev pub RunStands : BridgeSettings → Running → Bridged → Type 0
RunStands p g b = RunningStands p (Some g) b

-- By these outcomes of receives all that the definition makes of what came before went out, and the bridge stands for what it leaves.
pub record DoesAll {S : Type 0} (Stands : BridgeSettings → S → Bridged → Type 0) (makes : BridgeSettings → S → Turned) (bus net : List Outcome) (before after : Bridged)
    (old new : Outside) : Type 0 where
  pub tried : List Tried
  pub passes : Passes old new (passed bus net tried)
  pub is_due : (p : BridgeSettings) (g : S) → Stands p g before → all_due tried ≡ (makes p g).due
  pub stands : (p : BridgeSettings) (g : S) → Stands p g before → RunStands p (makes p g).after after

-- A write failed, and the first of it went out, the last item in part.
pub record DoesSome {S : Type 0} (Stands : BridgeSettings → S → Bridged → Type 0) (makes : BridgeSettings → S → Turned) (bus net : List Outcome) (before : Bridged)
    (old new : Outside) : Type 0 where
  pub tried : List Tried
  pub last : Tried
  pub stops : Stops old new (passed bus net tried) last
  pub is_front : (p : BridgeSettings) (g : S) → Stands p g before → IsFront (all_due (tried ++ last ∷ [])) (makes p g).due

abbrev pub Does : {S : Type 0} → (BridgeSettings → S → Bridged → Type 0) → (BridgeSettings → S → Turned) → List Outcome → List Outcome → Bridged → Bridged → Outside → Outside
    → Result (Unit {0}) Failed → Type 0
Does Stands makes bus net before after old new (Ok done) = DoesAll Stands makes bus net before after old new
Does Stands makes bus net before after old new (Err e) = DoesSome Stands makes bus net before old new

-- whether what came was an event is answered besides
abbrev pub Hears : ℕ → Arrived → List Outcome → List Outcome → Bridged → Bridged → Outside → Outside → Result Bool Failed → Type 0
Hears m came bus net before after old new (Ok heard) =
    (heard ≡ is_event came) × DoesAll RunStands (λ p g. with_came p m came g) bus net before after old new
Hears m came bus net before after old new (Err e) = DoesSome RunStands (λ p g. with_came p m came g) bus net before old new

-- what a receive on the bus gave, as its caller has it
abbrev pub frame_came : ℕ → Result (Option Frame) Report → Arrived
frame_came m (Ok frame) = Ok (option_map (λ f. capture.frame m (bus_frame f)) frame)
frame_came m (Err r) = Err r

abbrev pub frame_said : ℕ → Result Frame Report → Arrived
frame_said m (Ok f) = Ok (Some (capture.frame m (bus_frame f)))
frame_said m (Err r) = Err r

-- ---- a turn

pub record TurnsAll (number : ℕ) (before after : Bridged) (clock clock' : Option (List ℕ)) (old new : Outside) : Type 0 where
  pub reading : ℕ
  pub bus : Outcome
  pub net : Outcome
  pub fits : NetFits net
  pub reads : Joins clock clock' (reading ∷ [])
  pub does : DoesAll RunningStands (λ p g. turn p number reading (bus ∷ []) (net ∷ []) g) (bus ∷ []) (net ∷ []) before after old new

-- a write failed, perhaps before all was received
pub record TurnsSome (number : ℕ) (before : Bridged) (clock clock' : Option (List ℕ)) (old new : Outside) : Type 0 where
  pub reading : ℕ
  pub bus : List Outcome
  pub net : List Outcome
  pub reads : Joins clock clock' (reading ∷ [])
  pub cut : IsCut 1 (length bus) (length net)
  pub does : DoesSome RunningStands (λ p g. turn p number reading bus net g) bus net before old new

abbrev pub TakesTurn : ℕ → Bridged → Bridged → Option (List ℕ) → Option (List ℕ) → Outside → Outside → Result (Unit {0}) Failed → Type 0
TakesTurn number before after clock clock' old new (Ok done) = TurnsAll number before after clock clock' old new
TakesTurn number before after clock clock' old new (Err e) = TurnsSome number before clock clock' old new

-- ---- all turns

abbrev pub Ends : ℕ → Bridged → Option (List ℕ) → Option (List ℕ) → Outside → Outside → ℕ → Type 0
Ends turns before clock clock' old new status = (p : BridgeSettings) → IsNew p before → EndsBy p turns clock clock' old new status
