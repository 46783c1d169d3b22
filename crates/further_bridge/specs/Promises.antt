-- What is given of further quantities, in the words of the history: of all that ever came.
use Rattle.std.specs.Prelude.{◌≡◌, ℕ, ◌<◌, ◌%◌, List, [], ◌∷◌, ◌++◌, length, Option}
use Rattle.gate_events.specs.Emit.{Emit}
use Rattle.readings.specs.declared.rows.Row.TheVariants as row
use Rattle.tag_block.specs.Tag.{most_count}
use Rattle.quantities.specs.About.{quantities_count}
use Rattle.quantities.specs.Told.{kind_of}
use Rattle.source_choice.specs.Choices.{Choices, subject_at}
use Rattle.history.specs.AddressLaws.{AreSettings}
use Rattle.history.specs.Entries as entry
use Rattle.history.specs.Entries.{Entry, History, IsHistory, now}
use Rattle.history.specs.Settings.{Receiver, Settings, rule_of}
use Rattle.gate_model.specs.ChoiceStands.{ChoicesStandFor}
use Rattle.gate_model.specs.Machine.{Machine}
use Rattle.gate_outbox.specs.Output.{Emitted, Output, emits_of}
use Rattle.plain_out.specs.Pace.{Utterance, uttered}
use Rattle.parts.specs.SelectedMessage.{SelectedMessage}
use Rattle.parts.specs.Picked.{IsPicked}
use Rattle.parts.specs.Promises.{IsTaken}
use Rattle.joined_rmc.specs.JoinStands.{LastStands}
use Rattle.bus_listener.specs.Promises.{StandsListening}
use Rattle.further_bridge.specs.FurtherOut.{further_out, further_receiver, further_utters, lines_said, quantity_told}
use Rattle.further_bridge.specs.FurtherRule.{FurtherRule, rule_at}
use Rattle.further_bridge.specs.declared.said.Streams.{Streams}
use Rattle.further_bridge.specs.Kept.{FurtherKept, step_by}

-- the notes of one quantity alone
abbrev pub only : Choices → ℕ → Choices
only choices number = record { sources = choices.sources; subjects = subject_at choices number ∷ [] }

-- the notes of each quantity are of the messages that were complete, by who holds each address now
pub record EachStands (x : FurtherRule) (r : Receiver) (s : ℕ) (h : History) (choices : Choices) : Type 0 where
  pub count : length choices.subjects ≡ quantities_count
  pub each : (n : ℕ) → n < quantities_count → ChoicesStandFor (quantity_told n) (λ subject. rule_at x n) 1 r s h (only choices n)

-- what is kept stands for a history of the gateway with these settings
pub record StandsFurther (x : FurtherRule) (c : Settings) (s : ℕ) (h : History) (k : FurtherKept) : Type 0 where
  pub rule : k.rule ≡ x
  pub sfi : k.sfi ≡ c.sfi
  -- the fast packets in the making are those that are open at the moment of the last entry, each with the frames of it that came
  pub slots : StandsListening kind_of x.slots c s h k.slots
  pub choices : EachStands x (further_receiver x c) s h k.choices
  -- what the gateway said last of the water's temperature
  pub water : LastStands (rule_of c row.WaterTemperature).timeout c s row.WaterTemperature h k.water
  pub lines : k.lines ≡ lines_said x c s h % most_count

-- ---- the start, where this is how long the row of the water's temperature counts

abbrev pub IsFurtherOpening : FurtherRule → List ℕ → ℕ → FurtherKept → Type 0
IsFurtherOpening x sfi timeout k = (c : Settings) (s : ℕ) → c.sfi ≡ sfi → (rule_of c row.WaterTemperature).timeout ≡ timeout → StandsFurther x c s [] k

-- ---- an event that the gateway has taken: it leaves what stands for the history with it, and all that the history says is emitted

pub record IsFurtherTaken (x : FurtherRule) (c : Settings) (s : ℕ) (h : History) (e : Entry) (after : FurtherKept) (left : List Emit)
    (said : List Utterance) : Type 0 where
  pub stands : StandsFurther x c s (e ∷ h) after
  pub emits : left ≡ further_out x c s h e
  pub utters : said ≡ further_utters x c s h e

-- for every history for which it stands before the event, where the gateway has taken the event
abbrev pub IsFurtherStep : Machine → Output → Entry → FurtherKept → FurtherKept → List Emit → List Utterance → Type 0
IsFurtherStep gateway outbox e before after left said =
    (x : FurtherRule) (s : ℕ) (h : History) → AreSettings gateway.settings → IsHistory (e ∷ h) → IsTaken gateway.settings s h e gateway outbox
    → StandsFurther x gateway.settings s h before → IsFurtherTaken x gateway.settings s h e after left said

-- what is emitted in three places
abbrev pub in_places : Emitted → Emitted → Emitted → List Emit
in_places first second third = emits_of first ++ (emits_of second ++ emits_of third)

-- its datagrams, each with its stream
abbrev pub said_in_places : Streams → Emitted → Emitted → Emitted → List Utterance
said_in_places streams first second third =
    uttered streams.first (emits_of first) ++ (uttered streams.second (emits_of second) ++ uttered streams.third (emits_of third))

-- the same by what is kept: with the message that the gateway selected
pub record IsStepBy (gateway : Machine) (outbox : Output) (e : Entry) (before after : FurtherKept) (first second third : Emitted) : Type 0 where
  pub new : Option SelectedMessage
  pub picked : IsPicked gateway outbox new
  pub after_is : after ≡ (step_by gateway new before e).after
  pub first_is : first ≡ (step_by gateway new before e).emits
  pub second_is : second ≡ record { told = []; posted = (step_by gateway new before e).second }
  pub third_is : third ≡ record { told = []; posted = (step_by gateway new before e).third }

-- ---- a command, for which it isn't called: it stands for the history with it as well

abbrev pub CommandsLeaveFurther : Type 0
CommandsLeaveFurther =
    (x : FurtherRule) (c : Settings) (s : ℕ) (h : History) (source address : ℕ) (k : FurtherKept) → AreSettings c → StandsFurther x c s h k
    → StandsFurther x c s (entry.command (now h) source address ∷ h) k
