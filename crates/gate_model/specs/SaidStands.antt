-- When what a gateway keeps of whose messages are said (ISO 11783-5) and of what was said (IEC 61162-450) stands for the history.
use Rattle.std.specs.Prelude.{◌≡◌, ℕ, ◌%◌, List, length, Option}
use Rattle.readings.specs.declared.rows.Row.{Row}
use Rattle.tag_block.specs.Tag.{most_count}
use Rattle.tag_block.specs.Writing.{most_written_code}
use Rattle.claim_table.specs.declared.answer.Holder.{Holder}
use Rattle.history.specs.Entries.{History}
use Rattle.history.specs.Settings.{Settings, rule_of, receiver_of}
use Rattle.history.specs.Known.{known}
use Rattle.history.specs.Messages.{Message, messages_of}
use Rattle.history.specs.Emits.{Spoken, lines_on, line_groups}
use Rattle.history.specs.Gate.{spoken_of}
use Rattle.history.specs.Choice.{row_told, row_rules}
use Rattle.gate_model.specs.ChoiceStands.{StandsChoices}
use Rattle.gate_model.specs.Net.{row_numbers}
use Rattle.gate_model.specs.Said.{SaidKept, lines_at}

-- the notes of each row are of the messages that were complete, by who holds each address now; and the counts are those of all that was said,
-- as a line and a group of lines are numbered
pub record StandsSaid (c : Settings) (holders : List (Option Holder)) (older : List Message) (spoken : List Spoken) (k : SaidKept) : Type 0 where
  pub choices : StandsChoices row_told (row_rules c) (length row_numbers) holders older k.choices
  pub numbers : length k.lines ≡ length row_numbers
  pub lines : (row : Row) → lines_at k row ≡ lines_on (rule_of c row).group spoken % most_count
  pub groups : k.groups ≡ line_groups spoken % most_written_code

-- it stands for a history
abbrev pub SaidStandsFor : Settings → ℕ → History → SaidKept → Type 0
SaidStandsFor c s h k = StandsSaid c (known (receiver_of c) s h).claims.holders (messages_of (receiver_of c) s h) (spoken_of c s h) k
