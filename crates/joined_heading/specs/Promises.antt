-- When what is kept of joined headings stands for everything that ever came, and what is given of them.
use Rattle.std.specs.Prelude.{◌≡◌, ℕ, ◌%◌, List, [], ◌∷◌, option_map}
use Rattle.gate_events.specs.Emit.{Emit}
use Rattle.readings.specs.declared.rows.Row.TheVariants as row
use Rattle.tag_block.specs.Tag.{most_count}
use Rattle.history.specs.AddressLaws.{AreSettings}
use Rattle.history.specs.Entries.{Entry, History, IsHistory, command, now}
use Rattle.history.specs.Known.{known}
use Rattle.history.specs.Settings.{Settings, receiver_of, rule_of}
use Rattle.gate_model.specs.ChoiceStands.{ChoicesStandFor}
use Rattle.gate_model.specs.Machine.{Machine}
use Rattle.gate_outbox.specs.Output.{Output}
use Rattle.parts.specs.Picked.{message_of}
use Rattle.parts.specs.Promises.{IsTaken}
use Rattle.joined_rmc.specs.Lasting.{still_held}
use Rattle.joined_rmc.specs.JoinStands.{LastStands}
use Rattle.joined_rmc.specs.declared.last_of_row.LastOfRow.{LastOfRow}
use Rattle.bus_listener.specs.Promises.{StandsListening}
use Rattle.joined_heading.specs.HeadingOut.{heading_out, lines_said}
use Rattle.joined_heading.specs.HeadingRule.{HeadingRule}
use Rattle.joined_heading.specs.Kept.{HeadingKept}
use Rattle.joined_heading.specs.Variations.{kind_of, last_variation, variation_receiver, variation_told}

-- the last variation that was selected, where its sender holds its address ever since
pub record VariationStands (x : HeadingRule) (c : Settings) (s : ℕ) (h : History) (last : LastOfRow) : Type 0 where
  pub timeout_is : last.timeout ≡ x.taken.timeout
  pub kept : last.message ≡ option_map message_of (still_held (known (receiver_of c) s h).claims.holders (last_variation x c s h))

-- what is kept stands for a history of the gateway with these settings
pub record StandsHeading (x : HeadingRule) (c : Settings) (s : ℕ) (h : History) (k : HeadingKept) : Type 0 where
  pub rule : k.rule ≡ x
  pub sfi : k.sfi ≡ c.sfi
  pub slots : StandsListening kind_of 0 c s h k.slots
  pub choices : ChoicesStandFor variation_told (λ subject. x.taken) 1 (variation_receiver c) s h k.choices
  pub variation : VariationStands x c s h k.variation
  pub measured : LastStands (rule_of c row.HeadingTrue).timeout c s row.HeadingTrue h k.measured
  pub lines : k.lines ≡ lines_said x c s h % most_count

-- the start, where a true heading counts so many milliseconds
abbrev pub IsHeadingOpening : HeadingRule → List ℕ → ℕ → HeadingKept → Type 0
IsHeadingOpening x sfi timeout k = (c : Settings) (s : ℕ) → c.sfi ≡ sfi → (rule_of c row.HeadingTrue).timeout ≡ timeout → StandsHeading x c s [] k

-- an event that the gateway has taken: what is left stands for the history with it, and all that the history says is emitted
pub record IsHeadingTaken (x : HeadingRule) (c : Settings) (s : ℕ) (h : History) (e : Entry) (after : HeadingKept) (left : List Emit) : Type 0 where
  pub stands : StandsHeading x c s (e ∷ h) after
  pub emits : left ≡ heading_out x c s h e

-- for every history for which it stands before the event, where the gateway has taken the event
abbrev pub IsHeadingStep : Machine → Output → Entry → HeadingKept → HeadingKept → List Emit → Type 0
IsHeadingStep gateway outbox e before after left =
    (x : HeadingRule) (s : ℕ) (h : History) → AreSettings gateway.settings → IsHistory (e ∷ h) → IsTaken gateway.settings s h e gateway outbox
    → StandsHeading x gateway.settings s h before → IsHeadingTaken x gateway.settings s h e after left

-- a command to go to an address is no event for it
abbrev pub CommandsKeepHeadings : Type 0
CommandsKeepHeadings =
    (x : HeadingRule) (c : Settings) (s : ℕ) (h : History) (source address : ℕ) (k : HeadingKept) → AreSettings c → StandsHeading x c s h k
    → StandsHeading x c s (command (now h) source address ∷ h) k
