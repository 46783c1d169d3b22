-- What goes out of a gateway between two links: all that its turns make, in order, where what couldn't be sent is reported in its place.
use Rattle.std.specs.Prelude.{◌≡◌, ◌≢◌, ◌≤◌, ℕ, ◌+◌, Bool, true, false, List, [], ◌∷◌, ◌++◌, length, map, codes, Option, Some, None, Ok, Err}
use Rattle.std.specs.List.{AllByRecursion, flat_map}
use Rattle.report_rules.specs.Rules as rules
use Rattle.gate_events.specs.declared.emit.Detail.TheVariants as detail
use Rattle.gate_events.specs.declared.emit.Report.{Report}
use Rattle.hex.specs.Hex.{IsBytes}
use Rattle.capture_text.specs.Writing.{IsReportLine, time_text, frame_text, report_text}
use Rattle.gate_outside.specs.Faults.{Rose}
use Rattle.gate_outside.specs.Link.{GoesOn, Handed, Outcome, Traffic}
use Rattle.gate_outside.specs.LinkMemory.{largest_arrival}
use Rattle.gate_outside.specs.Told.{Joins}
use Rattle.gate_events.specs.Emit as emits
use Rattle.gate_events.specs.Emit.{Emit, Emitted}
use Rattle.history.specs.Emits.{broken}
use Rattle.capture_text.specs.Emitted.{line_of}
use Rattle.bridge.specs.BridgeSettings.{BridgeSettings}
use Rattle.command_line.specs.declared.statuses.Status.TheVariants.{Done, SinkFailed}
use Rattle.command_line.specs.Statuses.{number}
use Rattle.serving.specs.Turns.{Item, due_of, made, recorded, told}

-- ---- an item, and what became of it

-- what was to go out, and whether its send failed; a report and a recorded line are written and never sent
pub record Tried : Type 0 where
  pub due : Item
  pub failed : Bool

abbrev pub in_place : Bool → Emit → Emit
in_place false e = e
in_place true (emits.can f) = broken rules.send_failed detail.Bus
in_place true (emits.net group bytes) = broken rules.send_failed detail.Net
in_place true (emits.report r) = emits.report r

abbrev pub emitted_as : Bool → Emitted → Emitted
emitted_as failed e = record { moment = e.moment; emit = in_place failed e.emit }

abbrev pub item_as : Bool → Item → Item
item_as failed (made e) = made (emitted_as failed e)
item_as failed (told e) = told (emitted_as failed e)
item_as failed (recorded line) = recorded line

-- the item that it is: itself, or the report in its place, at its moment
abbrev pub item_of : Tried → Item
item_of t = item_as t.failed t.due

abbrev pub all_due : List Tried → List Item
all_due tried = map (λ t. t.due) tried

-- ---- where an item goes

-- what is made of it: of what was emitted, by its moment, and of a recorded line
abbrev pub of_item : {X : Type 0} → (ℕ → Emit → X) → (List ℕ → X) → Item → X
of_item emitted line (made e) = emitted e.moment e.emit
of_item emitted line (told e) = emitted e.moment e.emit
of_item emitted line (recorded text) = line text

-- a frame goes to the bus as its line of a capture, under the group CAN0
abbrev pub on_bus : ℕ → Emit → List Handed
on_bus m (emits.can f) = (codes "CAN0", time_text m ++ frame_text f) ∷ []
on_bus m (emits.net group bytes) = []
on_bus m (emits.report r) = []

-- a datagram goes to the network under its group
abbrev pub on_net : ℕ → Emit → List Handed
on_net m (emits.can f) = []
on_net m (emits.net group bytes) = (group, bytes) ∷ []
on_net m (emits.report r) = []

-- a report is a line of text
abbrev pub as_text : ℕ → Emit → List ℕ
as_text m (emits.can f) = []
as_text m (emits.net group bytes) = []
as_text m (emits.report r) = line_of (record { moment = m; emit = emits.report r })

abbrev pub item_on_bus : Item → List Handed
item_on_bus i = of_item on_bus (λ line. []) i

abbrev pub item_on_net : Item → List Handed
item_on_net i = of_item on_net (λ line. []) i

-- a recorded line is one of the text too
abbrev pub item_as_text : Item → List ℕ
item_as_text i = of_item as_text (λ line. line ++ 10 ∷ []) i

abbrev pub to_bus : Tried → List Handed
to_bus t = item_on_bus (item_of t)

abbrev pub to_net : Tried → List Handed
to_net t = item_on_net (item_of t)

abbrev pub to_text : Tried → List ℕ
to_text t = item_as_text (item_of t)

-- whether each send of a link failed: there was one for what was to go there
abbrev pub bus_sends : Tried → List Bool
bus_sends t = map (λ pair. t.failed) (item_on_bus t.due)

abbrev pub net_sends : Tried → List Bool
net_sends t = map (λ pair. t.failed) (item_on_net t.due)

-- ---- lines of text

-- what is written of a report is one line, whose second word says so
abbrev pub HasReportLine : ℕ → Emit → Type 0
HasReportLine m (emits.can f) = Unit {0}
HasReportLine m (emits.net group bytes) = Unit {0}
HasReportLine m (emits.report r) = IsReportLine (time_text m ++ report_text r)

abbrev pub ItemHasLine : Item → Type 0
ItemHasLine (made e) = HasReportLine e.moment e.emit
ItemHasLine (told e) = HasReportLine e.moment e.emit
ItemHasLine (recorded line) = Unit {0}

-- each report that was written is such a line
abbrev pub ReportsAreLines : List Tried → Type 0
ReportsAreLines tried = AllByRecursion (λ t. ItemHasLine (item_of t)) tried

-- ---- what is told of the links and of the sink

-- what each link tells, what the sink took, and how often a write failed
pub record Outside : Type 0 where
  pub bus : Option Traffic
  pub net : Option Traffic
  pub taken : Option (List ℕ)
  pub faults : ℕ

abbrev pub outside : Option Traffic → Option Traffic → Option (List ℕ) → ℕ → Outside
outside bus net taken faults = record { bus = bus; net = net; taken = taken; faults = faults }

-- what each receive gave, and what was tried
pub record Passed : Type 0 where
  pub from_bus : List Outcome
  pub from_net : List Outcome
  pub tried : List Tried

abbrev pub over_bus : Passed → Traffic → Traffic
over_bus x t = record {
  received = t.received ++ x.from_bus;
  handed = t.handed ++ flat_map to_bus x.tried;
  sends = t.sends ++ flat_map bus_sends x.tried;
  attached = t.attached;
}

abbrev pub over_net : Passed → Traffic → Traffic
over_net x t = record {
  received = t.received ++ x.from_net;
  handed = t.handed ++ flat_map to_net x.tried;
  sends = t.sends ++ flat_map net_sends x.tried;
  attached = t.attached;
}

-- All of this passed: each link that tells was handed its items, the text of the reports and of the recorded lines was taken, each report one
-- line of it, and no write failed.
pub record Passes (old new : Outside) (x : Passed) : Type 0 where
  pub bus : GoesOn (over_bus x) old.bus new.bus
  pub net : GoesOn (over_net x) old.net new.net
  pub text : Joins old.taken new.taken (flat_map to_text x.tried)
  pub lines : ReportsAreLines x.tried
  pub steady : new.faults ≡ old.faults

abbrev pub with_last : Passed → Tried → Passed
with_last x last = record { from_bus = x.from_bus; from_net = x.from_net; tried = x.tried ++ last ∷ [] }

-- an item is written: a report, or a recorded line
abbrev pub IsWritten : Item → Type 0
IsWritten (made e) = (r : Report) × (e.emit ≡ emits.report r)
IsWritten (told e) = (r : Report) × (e.emit ≡ emits.report r)
IsWritten (recorded line) = Unit {0}

-- This passed, and last a report or a recorded line of which only a part was taken, since a write failed.
pub record Stops (old new : Outside) (x : Passed) (last : Tried) : Type 0 where
  pub bus : GoesOn (over_bus (with_last x last)) old.bus new.bus
  pub net : GoesOn (over_net (with_last x last)) old.net new.net
  pub is_written : IsWritten (item_of last)
  pub part : List ℕ
  pub untaken : List ℕ
  pub text : Joins old.taken new.taken (flat_map to_text x.tried ++ part)
  pub front : part ++ untaken ≡ to_text last
  pub some : untaken ≢ []
  pub rose : Rose old.faults new.faults

-- ---- a run of turns

abbrev pub IsFront : List Item → List Item → Type 0
IsFront front all = (rest : List Item) × (all ≡ front ++ rest)

-- what a receive on the network gave is no longer than a link gives it, and bytes
abbrev pub NetFits : Outcome → Type 0
NetFits (Ok (Some bytes)) = (length bytes ≤ largest_arrival) × IsBytes bytes
NetFits (Ok None) = Unit {0}
NetFits (Err e) = Unit {0}

-- All turns were taken: each read the clock once and received once from each link, and all that they make went out.
pub record Serves (p : BridgeSettings) (turns : ℕ) (clock clock' : Option (List ℕ)) (old new : Outside) : Type 0 where
  pub readings : List ℕ
  pub passed : Passed
  pub reads : Joins clock clock' readings
  pub passes : Passes old new passed
  pub is_run : all_due passed.tried ≡ due_of p readings passed.from_bus passed.from_net
  pub each_reading : length readings ≡ turns
  pub each_bus : length passed.from_bus ≡ turns
  pub each_net : length passed.from_net ≡ turns
  pub fits : AllByRecursion NetFits passed.from_net

-- Each turn received from both links, but for the last one, which may have been cut off: so many readings and outcomes there were.
abbrev pub IsCut : ℕ → ℕ → ℕ → Type 0
IsCut readings bus net = (net ≤ bus) × (bus ≤ readings) × (readings ≤ net + 1)

-- A write failed: of what the turns make by what was read and received so far the first items went out, the last of them a report or a
-- recorded line, in part.
pub record Breaks (p : BridgeSettings) (turns : ℕ) (clock clock' : Option (List ℕ)) (old new : Outside) : Type 0 where
  pub readings : List ℕ
  pub passed : Passed
  pub last : Tried
  pub reads : Joins clock clock' readings
  pub stops : Stops old new passed last
  pub is_front : IsFront (all_due (passed.tried ++ last ∷ [])) (due_of p readings passed.from_bus passed.from_net)
  pub within : length readings ≤ turns
  pub cut : IsCut (length readings) (length passed.from_bus) (length passed.from_net)

-- what each status of a run says
pub record EndsBy (p : BridgeSettings) (turns : ℕ) (clock clock' : Option (List ℕ)) (old new : Outside) (status : ℕ) : Type 0 where
  pub done : status ≡ number Done → Serves p turns clock clock' old new
  pub sink_failed : status ≡ number SinkFailed → Breaks p turns clock clock' old new
