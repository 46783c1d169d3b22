-- What a gateway keeps of whose messages are said, by the NAMEs of the bus (ISO 11783-5), and of what was said on the network
-- (IEC 61162-450), as plain values; and what a message that is complete makes of it and gives. Nothing here speaks of what came before.
use Rattle.std.specs.Prelude.{ℕ, ◌+◌, ◌%◌, Bool, nat_le, List, [], ◌∷◌, ◌++◌, length, map, slice_index, Option, Some, None, option_map, if◌then◌else◌}
use Rattle.report_rules.specs.Rules as rules
use Rattle.gate_events.specs.declared.emit.Report.{Report}
use Rattle.gate_events.specs.declared.emit.Detail.TheVariants as detail
use Rattle.claim_table.specs.Claims.{places}
use Rattle.claim_table.specs.declared.answer.ClaimStep.{ClaimStep}
use Rattle.claim_table.specs.declared.answer.Holder.{Holder}
use Rattle.readings.specs.declared.reading.Reading.{Reading}
use Rattle.readings.specs.declared.rows.Row.{Row}
use Rattle.readings.specs.Rows.{row_of, row_number}
use Rattle.pgn_profile.specs.Profiled.{profiled}
use Rattle.source_choice.specs.declared.rank.Rank.{Rank}
use Rattle.source_choice.specs.Choices as notes
use Rattle.source_choice.specs.Choices.{Choices, opened, with_told}
use Rattle.sentence_profile.specs.Writing.{sentences_of}
use Rattle.tag_block.specs.Tag.{most_count}
use Rattle.tag_block.specs.Writing.{most_written_code}
use Rattle.datagram450.specs.Datagram.{header}
use Rattle.history.specs.Settings.{Settings, rule_at, rule_of, same_text}
use Rattle.history.specs.Known.{address_left, address_won}
use Rattle.history.specs.Messages.{Message, Carried, ordered_in}
use Rattle.history.specs.Choice as choice
use Rattle.history.specs.Choice.{rank_of, reading_in}
use Rattle.history.specs.Emits.{lines_from, report_of}
use Rattle.history.specs.BusRules.{is_short}
use Rattle.gate_events.specs.Emit.{Emit, net}
use Rattle.gate_model.specs.Choosing.{without_address}
use Rattle.gate_model.specs.Net.{row_numbers, timeouts}

-- ---- what is kept

pub record SaidKept : Type 0 where
  -- of each row what each source said last, where a source is an address of the bus
  pub choices : Choices
  -- of each row how many lines were said on its transmission group, modulo the greatest count, by the row's number: rows of one transmission group have
  -- one count, so that it is found by the row alone
  pub lines : List ℕ
  -- how many groups of lines were said, from 0 to 98
  pub groups : ℕ

abbrev pub nothing_said : Settings → SaidKept
nothing_said c = record { choices = opened places (timeouts c); lines = map (λ number. 0) row_numbers; groups = 0 }

-- ---- a complete message: when, from which address and NAME, and what it carries

pub record Complete : Type 0 where
  pub moment : ℕ
  pub source : ℕ
  pub name : ℕ
  pub pgn : ℕ
  pub payload : List ℕ

-- it is of the holder of its source; from an address that nobody holds there is none
abbrev pub complete_by : ℕ → ℕ → Option Holder → Option Carried → Option Complete
complete_by moment source None what = None
complete_by moment source (Some holder) what =
    option_map (λ x. record { moment = moment; source = source; name = holder.name.0; pgn = x.pgn; payload = x.payload }) what

-- without the entry by which it was complete
abbrev pub complete_of : Message → Complete
complete_of d = record { moment = d.moment; source = d.source; name = d.name; pgn = d.pgn; payload = d.payload }

abbrev pub reading_by : Complete → Option Reading
reading_by d = reading_in (profiled d.pgn d.payload)

-- rule 22: a message from this address has too few bytes for what its PGN says
abbrev pub short_reports : ℕ → Option Carried → List Report
short_reports source None = []
short_reports source (Some message) =
    if is_short (profiled message.pgn message.payload) then report_of rules.short_message (detail.Source source message.pgn) ∷ [] else []

-- what is told of it besides
pub record Told : Type 0 where
  pub source : ℕ
  pub name : ℕ
  pub pgn : ℕ
  pub reading : Option Reading

abbrev pub told_by : Complete → Told
told_by d = record { source = d.source; name = d.name; pgn = d.pgn; reading = reading_by d }

-- ---- the command to go to an address that it gives (ISO 11783-5, commanded address): its first 8 bytes are the own NAME, the ninth is the
-- address

pub record Ordered : Type 0 where
  pub source : ℕ
  pub address : ℕ

abbrev pub ordered_by : ℕ → Option Complete → Option Ordered
ordered_by name None = None
ordered_by name (Some d) = option_map (λ address. record { source = d.source; address = address }) (ordered_in name d.pgn d.payload)

-- ---- the datagram in which a reading is said, and the counts after it

abbrev pub sentences_by : Settings → Reading → List (List ℕ)
sentences_by c r = sentences_of (rule_of c (row_of r)).talker c.ths r

-- the lines that were said on the row's transmission group
abbrev pub lines_at : SaidKept → Row → ℕ
lines_at k row = slice_index k.lines (row_number row)

abbrev pub datagram_by : Settings → SaidKept → Reading → List ℕ
datagram_by c k r = let sentences = sentences_by c r in header ++ lines_from c.sfi (length sentences) (k.groups + 1) (lines_at k (row_of r)) 1 sentences

-- so many lines more, on one transmission group
abbrev pub lines_more : Settings → SaidKept → List ℕ → ℕ → ℕ → ℕ
lines_more c k group count number = let before = slice_index k.lines number in
    if same_text group (rule_at c.rows number).group then (before + count) % most_count else before

abbrev pub groups_more : SaidKept → ℕ → ℕ
groups_more k count = if nat_le 2 count then (k.groups + 1) % most_written_code else k.groups

abbrev pub counted : Settings → SaidKept → Reading → SaidKept
counted c k r = let count = length (sentences_by c r) in
    record k { lines = map (lines_more c k (rule_of c (row_of r)).group count) row_numbers; groups = groups_more k count }

-- ---- a message with a reading: where its NAME has a rank in the row it is noted, and where it is selected it is said

abbrev pub is_chosen : SaidKept → Complete → Rank → Reading → Bool
is_chosen k d rank r = notes.is_chosen k.choices d.source rank d.moment (choice.told_by r)

abbrev pub noted_by : SaidKept → Complete → Rank → Reading → SaidKept
noted_by k d rank r = record k { choices = with_told k.choices d.source rank d.moment (choice.told_by r) }

abbrev pub rank_by : Settings → Complete → Reading → Option Rank
rank_by c d r = rank_of (rule_of c (row_of r)) d.name

module _ (c : Settings) (k : SaidKept) where
  abbrev pub ranked_after : Complete → Reading → Option Rank → SaidKept
  ranked_after d r None = k
  ranked_after d r (Some rank) = let after = noted_by k d rank r in if is_chosen k d rank r then counted c after r else after

  abbrev pub ranked_emits : Complete → Reading → Option Rank → List Emit
  ranked_emits d r None = []
  ranked_emits d r (Some rank) = if is_chosen k d rank r then net (rule_of c (row_of r)).group (datagram_by c k r) ∷ [] else []

  abbrev pub profiled_after : Complete → Option Reading → SaidKept
  profiled_after d None = k
  profiled_after d (Some r) = ranked_after d r (rank_by c d r)

  abbrev pub profiled_emits : Complete → Option Reading → List Emit
  profiled_emits d None = []
  profiled_emits d (Some r) = ranked_emits d r (rank_by c d r)

  abbrev pub message_after : Option Complete → SaidKept
  message_after None = k
  message_after (Some d) = profiled_after d (reading_by d)

  abbrev pub message_emits : Option Complete → List Emit
  message_emits None = []
  message_emits (Some d) = profiled_emits d (reading_by d)

-- ---- addresses that change hands: nothing is noted any more of the one that was left and the one that was won

abbrev pub without_source : Option ℕ → SaidKept → SaidKept
without_source a k = record k { choices = without_address a k.choices }

abbrev pub claimed_after : ClaimStep → SaidKept → SaidKept
claimed_after step k = without_source (address_won step) (without_source (address_left step) k)
