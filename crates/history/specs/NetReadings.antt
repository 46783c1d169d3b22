-- What the lines from the network say, and which of it is selected and sent on. Lists of what was heard have the newest first.
use Rattle.std.specs.Prelude.{ℕ, ◌%◌, Bool, ◌&&◌, not, ◌==◌, List, [], ◌∷◌, map, filter, find, count_by, Option, Some, option_map, Result, Ok, Err, if◌then◌else◌}
use Rattle.std.specs.List.{list_any, filter_map, flat_map}
use Rattle.std.specs.Result.{result_ok}
use Rattle.readings.specs.declared.reading.Reading.{Reading}
use Rattle.readings.specs.declared.rows.Row.{Row}
use Rattle.readings.specs.Rows.{row_of}
use Rattle.pgn_profile.specs.Profiled.{pgn_of, kind_of}
use Rattle.sentence_text.specs.declared.fault.SentenceFault.{SentenceFault}
use Rattle.sentence_text.specs.Sentence.{SentenceParts}
use Rattle.sentence_text.specs.Reading as sentences
use Rattle.sentence_profile.specs.declared.fault.FieldFault.{FieldFault}
use Rattle.sentence_profile.specs.declared.fault.FieldFault.TheVariants.{Outside}
use Rattle.sentence_profile.specs.declared.optional.OptionalSentences.{OptionalSentences}
use Rattle.sentence_profile.specs.Reading.{read_row}
use Rattle.source_choice.specs.declared.rank.Rank.{Rank}
use Rattle.history.specs.Settings.{Settings, RowRule, rule_of, same_text, is_some_that}
use Rattle.history.specs.Opens.{is_fast}
use Rattle.history.specs.Subjects.{is_better}
use Rattle.history.specs.Choice.{is_row, is_current}
use Rattle.history.specs.Heard.{Taken, place_of, handed_over, with_each}

-- a reading that was heard, with its line: of a group, the one that completed it
pub record NetReading : Type 0 where
  pub line : Taken
  pub reading : Reading

-- ---- what a sentence says: its readings, or its first fault; one that can't be read is outside the profile

abbrev pub read_parts : OptionalSentences → Result SentenceParts SentenceFault → Result (List Reading) FieldFault
read_parts optional (Ok parts) = read_row optional parts
read_parts optional (Err f) = Err Outside

abbrev pub read_sentence : OptionalSentences → List ℕ → Result (List Reading) FieldFault
read_sentence optional text = read_parts optional (sentences.read text)

-- ---- what a line says, in order: of each sentence that it hands over the readings, or the fault

abbrev pub sentence_says : Taken → Result (List Reading) FieldFault → List (Result NetReading FieldFault)
sentence_says t (Ok readings) = map (λ r. Ok (record { line = t; reading = r })) readings
sentence_says t (Err fault) = Err fault ∷ []

abbrev pub line_says : OptionalSentences → Taken → List (List ℕ) → List (Result NetReading FieldFault)
line_says optional t texts = flat_map (λ text. sentence_says t (read_sentence optional text)) texts

-- with the readings among it
abbrev pub with_readings : List NetReading → List (Result NetReading FieldFault) → List NetReading
with_readings older said = with_each older (filter_map result_ok said)

-- the readings of all lines that were taken
abbrev pub readings_of : OptionalSentences → List Taken → List NetReading
readings_of optional [] = []
readings_of optional (t ∷ older) = with_readings (readings_of optional older) (line_says optional t (handed_over t older))

-- ---- which readings are selected: as on the bus, without claims; the rank of a source is its place among those that are listed

abbrev pub net_rank : Settings → List ℕ → Option Rank
net_rank c source = option_map (λ place. record { place = place; name = 0 }) (place_of c source)

-- the last reading of a row from a source
abbrev pub last_heard : Row → List ℕ → List NetReading → Option NetReading
last_heard row source older = find (λ n. same_text n.line.source source && is_row row (Some n.reading)) older

abbrev pub counts_still : ℕ → ℕ → Option NetReading → Bool
counts_still timeout m last = is_some_that (λ n. is_current timeout m n.line.moment (Some n.reading)) last

-- a source is fresh where its last reading of the row counts still
abbrev pub is_net_fresh : RowRule → Row → List ℕ → ℕ → List NetReading → Bool
is_net_fresh rule row source m older = counts_still rule.timeout m (last_heard row source older)

-- no source of a smaller rank is fresh
abbrev pub is_net_first : Settings → List NetReading → NetReading → Option Rank → Bool
is_net_first c older n rank = let row = row_of n.reading in
    is_some_that (λ x. not (list_any (λ o. is_better x (net_rank c o.line.source) && is_net_fresh (rule_of c row) row o.line.source n.line.moment older) older)) rank

abbrev pub is_net_selected : Settings → List NetReading → NetReading → Bool
is_net_selected c older n = is_net_first c older n (net_rank c n.line.source)

abbrev pub selected_of : Settings → List NetReading → List NetReading
selected_of c [] = []
selected_of c (n ∷ older) = if is_net_selected c older n then n ∷ selected_of c older else selected_of c older

-- ---- what is sent on: the selected readings that came while the gateway was ready

abbrev pub is_fast_row : Row → Bool
is_fast_row row = is_fast (kind_of (pgn_of row))

-- the PGNs of the fast packets among it
abbrev pub fast_sent : Settings → List NetReading → List ℕ
fast_sent c readings = map (λ n. pgn_of (row_of n.reading)) (filter (λ n. n.line.ready && is_fast_row (row_of n.reading)) (selected_of c readings))

-- the sequence of the next fast packet of a PGN counts those that were sent, from 0 to 7
abbrev pub next_sequence : Settings → List NetReading → ℕ → ℕ
next_sequence c readings pgn = count_by (λ p. p == pgn) (fast_sent c readings) % 8
