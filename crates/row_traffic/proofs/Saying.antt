-- The lines of the sentences in which a reading is said, one after another.
use Rattle.std.proofs.Common.{◌≡◌, ℕ, ◌+◌, ◌%◌, ◌<◌, ◌≤◌, List, ◌∷◌, ◌++◌, length, drop, slice_index_or, refl, ap, sym, ◌∙◌, subst, append_assoc, length-append, arith}
use Rattle.std.proofs.lemmas.List.{length-map}
use Rattle.std.proofs.Math.Numerals.{suc-eq-add-one}
use Rattle.std.proofs.Math.Seq.{drop-cons}
use Rattle.sentence_fields.specs.declared.lines.SentenceText.{SentenceText}
use Rattle.readings.specs.declared.reading.Reading.{Reading}
use Rattle.readings.specs.Rows.{IsValid, row_of}
use Rattle.sentence_text.specs.Names.{IsSfi}
use Rattle.tag_block.specs.Tag.{most_count}
use Rattle.tag_block.specs.Writing.{longest_packet}
use Rattle.datagram450.specs.Datagram.{header, line_text}
use Rattle.history.specs.Emits.{lines_from, part_of}
use Rattle.history.specs.Settings.{Settings, rule_of}
use Rattle.gate_model.specs.Said.{SaidKept, lines_at, sentences_by, datagram_by}
use Rattle.gate_model.specs.SaidFits.{AreCounts}
use Rattle.gate_model.proofs.SaidFits.{readings_fit}
use Rattle.config_values.specs.declared.selective_config.SelectiveConfig.{SelectiveConfig}
use Rattle.config_values.specs.Settings.{settings_by, settings_ignoring}
use Rattle.row_traffic.specs.Saying.{texts}

pub says_ths : (config : SelectiveConfig) → (settings_by config).ths ≡ config.base.ths
unfolding settings_ignoring
says_ths config = refl

pub says_sfi : (config : SelectiveConfig) → (settings_by config).sfi ≡ config.base.sfi
unfolding settings_ignoring
says_sfi config = refl

module _ (source : List ℕ) (code before : ℕ) (sentences : List SentenceText) (place : ℕ) where
  abbrev total : ℕ
  total = length sentences

  -- the line at this place, and those behind it
  abbrev pub line_here : SentenceText → List ℕ
  line_here x =
      line_text (record { group = part_of total code (place + 1); source = source; count = (before + place) % most_count + 1 }) x.bytes.items

  abbrev pub lines_after : List ℕ
  lines_after = lines_from source total code (before + (place + 1)) (place + 1 + 1) (texts (drop (place + 1) sentences))

  pub next_line : (x : SentenceText) → place < length sentences → slice_index_or sentences place x ≡ x
      → lines_from source total code (before + place) (place + 1) (texts (drop place sentences)) ≡ line_here x ++ lines_after
  next_line x within is =
      let there : drop place sentences ≡ x ∷ drop (place + 1) sentences =
      drop-cons sentences place x within ∙ ap (λ n. slice_index_or sentences place x ∷ drop n sentences) (suc-eq-add-one place)
      ∙ ap (λ y. y ∷ drop (place + 1) sentences) is in
      let count : before + place + 1 ≡ before + (place + 1) = omega arith in
      ap (λ xs. lines_from source total code (before + place) (place + 1) (texts xs)) there
      ∙ ap (λ n. line_here x ++ lines_from source total code n (place + 1 + 1) (texts (drop (place + 1) sentences))) count

-- ---- what is written, a line, and what is still to be written make up the whole

pub goes_on : (old new line rest whole : List ℕ) → new ≡ old ++ line → old ++ (line ++ rest) ≡ whole → new ++ rest ≡ whole
goes_on old new line rest whole written is = ap (λ t. t ++ rest) written ∙ append_assoc old line rest ∙ is

pub has_room : (old line rest whole : List ℕ) (most : ℕ) → old ++ (line ++ rest) ≡ whole → length whole ≤ most → length old + length line ≤ most
has_room old line rest whole most is room =
    let all = ap length is in
    let first = length-append old (line ++ rest) in
    let second = length-append line rest in
    omega (arith, all, first, second, room)

-- ---- the datagram of the sentences of a reading, by what was said before

module _ (c : Settings) (k : SaidKept) (r : Reading) (source : List ℕ) (code before : ℕ) (sentences : List SentenceText) where
  abbrev pub datagram : List ℕ
  datagram = header ++ lines_from source (length sentences) code before 1 (texts sentences)

  pub same_datagram : source ≡ c.sfi → code ≡ k.groups + 1 → before ≡ lines_at k (row_of r) → texts sentences ≡ sentences_by c r
      → datagram ≡ datagram_by c k r
  same_datagram speaks is_code is_before said =
      ap (λ n. header ++ lines_from source n code before 1 (texts sentences)) (sym (length-map sentences (λ text. text.bytes.items)))
      ∙ ap (λ xs. header ++ lines_from source (length xs) code before 1 xs) said
      ∙ ap (λ s. header ++ lines_from s (length (sentences_by c r)) code before 1 (sentences_by c r)) speaks
      ∙ ap (λ n. header ++ lines_from c.sfi (length (sentences_by c r)) n before 1 (sentences_by c r)) is_code
      ∙ ap (λ n. header ++ lines_from c.sfi (length (sentences_by c r)) (k.groups + 1) n 1 (sentences_by c r)) is_before

  pub fits : datagram ≡ datagram_by c k r → IsSfi source → source ≡ c.sfi → length (rule_of c (row_of r)).talker ≡ 2 → IsValid r → AreCounts k
      → length datagram ≤ longest_packet
  fits same form speaks talker valid counts =
      subst (λ bytes. length bytes ≤ longest_packet) (sym same) (readings_fit c k r (subst IsSfi speaks form) talker valid counts).room
