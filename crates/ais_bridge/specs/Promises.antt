-- What the bridge gives, in the words of the history: of all that ever came.
use Rattle.std.specs.Prelude.{◌≡◌, ℕ, ◌%◌, ◌≤◌, List, [], ◌∷◌, length, Ok}
use Rattle.sentence_text.specs.Sentence.{IsSentence, longest_written}
use Rattle.tag_block.specs.Tag.{most_count}
use Rattle.ais_report.specs.declared.report.AisReport.{AisReport}
use Rattle.ais_report.specs.Converted.{converted}
use Rattle.settings.specs.declared.ais.AisConfig.{AisConfig}
use Rattle.history.specs.Entries as entry
use Rattle.history.specs.Entries.{Entry, History, IsHistory, now}
use Rattle.history.specs.AddressLaws.{AreSettings}
use Rattle.history.specs.Settings.{Settings}
use Rattle.history.specs.Known.{known}
use Rattle.history.specs.Opens.{notes_of, open_fast_keys}
use Rattle.gate_events.specs.Emit.{Emit}
use Rattle.gate_model.specs.Machine.{Machine}
use Rattle.gate_model.specs.Stands.{Stands}
use Rattle.bus_listener.specs.Steps.{by_keys}
use Rattle.bus_listener.specs.Promises.{StandsListening}
use Rattle.ais_bridge.specs.AisOut.{ais_receiver, ais_out, lines_said, report_kinds}
use Rattle.ais_bridge.specs.Reports.{report_parts, report_sentence}
use Rattle.ais_bridge.specs.AisKept.{AisKept, AisStep, ais_step}

-- what the bridge keeps stands for a history of the gateway with these settings
pub record StandsAis (a : AisConfig) (c : Settings) (s : ℕ) (h : History) (k : AisKept) : Type 0 where
  pub group : k.group ≡ a.group
  pub sfi : k.sfi ≡ c.sfi
  -- the reports in the making are those that are open at the moment of the last entry, each with the frames of it that came
  pub slots : StandsListening report_kinds a.slots c s h k.slots
  pub lines : k.lines ≡ lines_said a c s h % most_count

-- what an event makes of it and gives, after the gateway has taken it
abbrev pub step_by : Machine → AisKept → Entry → AisStep
step_by gateway k e = ais_step by_keys.fast gateway.addresses k e

-- ---- the start

abbrev pub IsAisOpening : AisConfig → List ℕ → AisKept → Type 0
IsAisOpening a sfi k = (c : Settings) (s : ℕ) → c.sfi ≡ sfi → StandsAis a c s [] k

-- ---- an event that the gateway has taken: it leaves what stands for the history with it, and all that the history says is emitted

pub record IsAisTaken (a : AisConfig) (c : Settings) (s : ℕ) (h : History) (e : Entry) (after : AisKept) (left : List Emit) : Type 0 where
  pub stands : StandsAis a c s (e ∷ h) after
  pub emits : left ≡ ais_out a c s h e

-- for every history for which the bridge stands before the event, where the gateway stands for it with the event
abbrev pub IsAisStep : Machine → Entry → AisKept → AisKept → List Emit → Type 0
IsAisStep gateway e before after left =
    (a : AisConfig) (s : ℕ) (h : History) → AreSettings gateway.settings → IsHistory (e ∷ h) → Stands by_keys gateway.settings s (e ∷ h) gateway
    → StandsAis a gateway.settings s h before → IsAisTaken a gateway.settings s h e after left

-- ---- a command, for which the bridge isn't called: it stands for the history with it as well

abbrev pub CommandsLeaveAis : Type 0
CommandsLeaveAis =
    (a : AisConfig) (c : Settings) (s : ℕ) (h : History) (source address : ℕ) (k : AisKept) → AreSettings c → StandsAis a c s h k
    → StandsAis a c s (entry.command (now h) source address ∷ h) k

-- ---- no more reports are open than there is room for

abbrev pub ReportsKeepTheLimit : Type 0
ReportsKeepTheLimit =
    (a : AisConfig) (c : Settings) (s : ℕ) (h : History) (m : ℕ) → AreSettings c → IsHistory h → now h ≤ m
    → length (open_fast_keys (ais_receiver a c).kinds (known (ais_receiver a c) s h).claims.holders (notes_of (ais_receiver a c) s h) m) ≤ a.slots

-- ---- what is said can be read

-- the report, with the letter of its channel, is said in a sentence of IEC 61162-1, which has at most 82 bytes
pub record IsSaid (x : AisReport × ℕ) : Type 0 where
  pub is_sentence : IsSentence (report_parts x) (report_sentence x)
  pub short : length (report_sentence x) ≤ longest_written

-- so is the report of each payload that has one
abbrev pub ReportsAreSaid : Type 0
ReportsAreSaid = (payload : List ℕ) (x : AisReport × ℕ) → converted payload ≡ Ok x → IsSaid x
