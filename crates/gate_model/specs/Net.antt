-- What a gateway keeps of the readings from the network (IEC 61162-1 over IEC 61162-450), as plain values, and what a reading and a sentence
-- make of it and give. Nothing here speaks of what came before.
use Rattle.std.specs.Prelude.{ℕ, ◌+◌, ◌%◌, Bool, ◌&&◌, not, List, [], ◌∷◌, ◌++◌, length, map, slice_index, slice_set, Option, Some, None, Result, Ok, Err, if◌then◌else◌}
use Rattle.report_rules.specs.Rules as rules
use Rattle.readings.specs.declared.reading.Reading.{Reading}
use Rattle.readings.specs.declared.rows.Row.{Row}
use Rattle.readings.specs.Rows.{row_of, every_row, row_number}
use Rattle.pgn_profile.specs.Profiled.{payload_of, pgn_of, priority_of}
use Rattle.fast_packet.specs.FastRuns.{frames_of}
use Rattle.sentence_profile.specs.declared.fault.FieldFault.{FieldFault}
use Rattle.sentence_profile.specs.declared.fault.FieldFault.TheVariants.{Outside, Form, Range}
use Rattle.sentence_profile.specs.declared.optional.OptionalSentences.{OptionalSentences}
use Rattle.source_choice.specs.declared.rank.Rank.{Rank}
use Rattle.source_choice.specs.declared.note.Note.{Note}
use Rattle.source_choice.specs.Notes.{SubjectNotes, is_selected}
use Rattle.source_choice.specs.Choices.{Choices, opened, subject_at, with_noted}
use Rattle.gate_events.specs.declared.emit.Detail.TheVariants as detail
use Rattle.history.specs.Settings.{Settings, rule_at}
use Rattle.gate_events.specs.Emit.{Emit}
use Rattle.history.specs.Emits.{broken, sent}
use Rattle.history.specs.Choice.{is_usable}
use Rattle.history.specs.NetReadings.{read_sentence, is_fast_row}

-- ---- what is kept: of each row what each source said last, where a source goes by its place among those that are listed; and how many
-- fast packets of the row were sent, from 0 to 7, by the row's number

pub record ReadingsKept : Type 0 where
  pub choices : Choices
  pub sequences : List ℕ

abbrev pub row_numbers : List ℕ
row_numbers = map row_number every_row

-- the notes of a row
abbrev pub row_at : Choices → Row → SubjectNotes
row_at k row = subject_at k (row_number row)

-- how long a source counts in each row
abbrev pub timeouts : Settings → List ℕ
timeouts c = map (λ number. (rule_at c.rows number).timeout) row_numbers

abbrev pub no_readings : Settings → ReadingsKept
no_readings c = record { choices = opened (length c.net_sources) (timeouts c); sequences = map (λ number. 0) row_numbers }

-- ---- a line whose sentences are read: when it came, and whether the gateway was ready then; its place in its datagram; its source's
-- place among those that are listed; and which of the sentences are read that a configuration decides on

pub record LineHeard : Type 0 where
  pub moment : ℕ
  pub ready : Bool
  pub place : ℕ
  pub source : ℕ
  pub optional : OptionalSentences

abbrev pub rank_by : LineHeard → Rank
rank_by l = record { place = l.source; name = 0 }

-- ---- a reading: it is noted, and where it is selected it is sent on, or reported where the gateway isn't ready

abbrev pub note_by : LineHeard → Reading → Note
note_by l r = record { source = l.source; rank = rank_by l; moment = l.moment; usable = is_usable (Some r) }

abbrev pub is_chosen : ReadingsKept → LineHeard → Reading → Bool
is_chosen k l r = is_selected (row_at k.choices (row_of r)) l.source (rank_by l) l.moment

-- the sequence of the next fast packet of a row
abbrev pub sequence_at : ReadingsKept → Row → ℕ
sequence_at k row = slice_index k.sequences (row_number row)

abbrev pub is_counted : ReadingsKept → LineHeard → Reading → Bool
is_counted k l r = is_chosen k l r && (l.ready && is_fast_row (row_of r))

abbrev pub sequences_after : ReadingsKept → LineHeard → Reading → List ℕ
sequences_after k l r = let row = row_of r in
    if is_counted k l r then slice_set k.sequences (row_number row) ((sequence_at k row + 1) % 8) else k.sequences

abbrev pub reading_after : ReadingsKept → LineHeard → Reading → ReadingsKept
reading_after k l r = record { choices = with_noted k.choices (row_number (row_of r)) (note_by l r); sequences = sequences_after k l r }

-- in one frame, or as a fast packet
abbrev pub frames_by : ReadingsKept → Reading → List (List ℕ)
frames_by k r = let row = row_of r in if is_fast_row row then frames_of (sequence_at k row) (payload_of r) else payload_of r ∷ []

abbrev pub sent_by : Option ℕ → ReadingsKept → Reading → List Emit
sent_by None k r = []
sent_by (Some address) k r = let row = row_of r in map (λ held. sent (priority_of row) (pgn_of row) 255 address held) (frames_by k r)

abbrev pub reading_emits : Option ℕ → ReadingsKept → LineHeard → Reading → List Emit
reading_emits own k l r =
    if not (is_chosen k l r) then []
    else if l.ready then sent_by own k r
    else broken rules.not_ready (detail.At l.place) ∷ []

-- ---- the readings of a sentence, in order

abbrev pub readings_after : ReadingsKept → LineHeard → List Reading → ReadingsKept
readings_after k l [] = k
readings_after k l (r ∷ rs) = readings_after (reading_after k l r) l rs

abbrev pub readings_emit : Option ℕ → ReadingsKept → LineHeard → List Reading → List Emit
readings_emit own k l [] = []
readings_emit own k l (r ∷ rs) = reading_emits own k l r ++ readings_emit own (reading_after k l r) l rs

-- ---- a sentence: its readings, or its fault

abbrev pub fault_emits : ℕ → FieldFault → List Emit
fault_emits place Outside = []
fault_emits place (Form field) = broken rules.field_form (detail.AtField place field) ∷ []
fault_emits place (Range field) = broken rules.field_range (detail.AtField place field) ∷ []

abbrev pub said_after : ReadingsKept → LineHeard → Result (List Reading) FieldFault → ReadingsKept
said_after k l (Ok readings) = readings_after k l readings
said_after k l (Err fault) = k

abbrev pub said_emits : Option ℕ → ReadingsKept → LineHeard → Result (List Reading) FieldFault → List Emit
said_emits own k l (Ok readings) = readings_emit own k l readings
said_emits own k l (Err fault) = fault_emits l.place fault

-- ---- the sentences that a line hands over, in order

abbrev pub sentences_after : ReadingsKept → LineHeard → List (List ℕ) → ReadingsKept
sentences_after k l [] = k
sentences_after k l (text ∷ texts) = sentences_after (said_after k l (read_sentence l.optional text)) l texts

abbrev pub sentences_emit : Option ℕ → ReadingsKept → LineHeard → List (List ℕ) → List Emit
sentences_emit own k l [] = []
sentences_emit own k l (text ∷ texts) = let said = read_sentence l.optional text in
    said_emits own k l said ++ sentences_emit own (said_after k l said) l texts
