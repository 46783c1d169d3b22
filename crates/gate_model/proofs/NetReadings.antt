-- What is kept of the readings stands for those that were heard, one after another.
use Rattle.std.proofs.Common.{◌≡◌, ◌≢◌, ℕ, ◌+◌, ◌%◌, Bool, true, false, cond, ◌&&◌, not, List, [], ◌∷◌, ◌++◌, append-nil, map, length, get_or, set, length-set, refl, sym, ap, subst, ◌∙◌, ◌==◌, arith}
use Rattle.std.specs.Prelude.{Option, Some, None, Result, Ok, Err, count_by, if◌then◌else◌}
use Rattle.std.proofs.lemmas.List.{get_or-set_other}
use Rattle.std.proofs.lemmas.Grind.{get_or-set_at}
use Rattle.std.proofs.lemmas.List.Sums.{sum_by-cons}
use Rattle.std.proofs.lemmas.Bool.{and_parts, eqb-true, eqb-false, eq-eqb, ne_eqb}
use Rattle.readings.specs.declared.reading.Reading.{Reading}
use Rattle.readings.specs.declared.rows.Row.{Row}
use Rattle.readings.specs.Rows.{row_of, row_number}
use Rattle.pgn_profile.specs.Profiled.{payload_of, pgn_of, priority_of}
use Rattle.fast_packet.specs.FastRuns.{frames_of}
use Rattle.sentence_profile.specs.declared.fault.FieldFault.{FieldFault}
use Rattle.sentence_profile.specs.declared.fault.FieldFault.TheVariants.{Outside, Form, Range}
use Rattle.source_choice.specs.declared.note.Note.{Note}
use Rattle.source_choice.specs.Notes.{SubjectNotes, note_of, with_note}
use Rattle.source_choice.specs.Choices.{nothing, noted, with_noted}
use Rattle.source_choice.proofs.NoteLemmas.{from_with, noted_here, others_noted}
use Rattle.history.specs.Settings.{Settings, same_text}
use Rattle.report_rules.specs.Rules.{not_ready}
use Rattle.gate_events.specs.declared.emit.Detail.TheVariants.{At}
use Rattle.gate_events.specs.Emit.{Emit}
use Rattle.history.specs.Emits.{broken, sent, reported}
use Rattle.history.specs.Choice.{is_row}
use Rattle.history.specs.Heard.{Taken, place_of}
use Rattle.history.specs.NetReadings.{NetReading, read_sentence, sentence_says, line_says, with_readings, last_heard, is_net_selected, is_fast_row, fast_sent, next_sequence}
use Rattle.history.specs.NetRules.{sentence_breaks, reading_breaks}
use Rattle.history.specs.FromNet.{payload_frames, sent_from, reading_gives, said_gives}
use Rattle.history.specs.HeardLaws.{goes_fast}
use Rattle.history.specs.ChoiceLaws.{net_noted, HoldsNetNotes}
use Rattle.history.proofs.GroupCounts.{text_is}
use Rattle.history.proofs.GroupSteps.{text_same}
use Rattle.history.proofs.NoteChoice.{first_net_by_notes}
use Rattle.history.proofs.HeardSteps.{datagrams_give_in_order, readings_count_fast}
use Rattle.gate_model.specs.Net.{ReadingsKept, LineHeard, row_at, row_numbers, no_readings, note_by, is_chosen, sequence_at, is_counted, sequences_after, reading_after, frames_by, sent_by, reading_emits, readings_after, readings_emit, fault_emits, said_after, said_emits, sentences_after, sentences_emit}
use Rattle.gate_model.specs.NetStands.{StandsReadings}
use Rattle.gate_model.proofs.NetRows.{place_below, one_source, row_below, opened_at, none_sent, by_number, by_pgn}

-- ---- nothing kept stands for no readings

pub no_readings_stand : (c : Settings) → StandsReadings c [] (no_readings c)
no_readings_stand c = record {
  sources = refl;
  rows = refl;
  numbers = refl;
  each_row = λ r. ap (λ (x : SubjectNotes). x.sources) (opened_at c r);
  notes = λ r. subst (HoldsNetNotes c r []) (sym (opened_at c r)) (record { timeout = refl; apart = tt; notes = λ source place e. refl; listed = λ place x e. cc });
  counts = λ r fast. none_sent c r;
}

-- ---- one more reading

count_more : (xs : List ℕ) (x pgn : ℕ) → count_by (λ p. p == pgn) (x ∷ xs) ≡ cond (x == pgn) 1 0 + count_by (λ p. p == pgn) xs
count_more xs x pgn = sum_by-cons (λ (p : ℕ). cond (p == pgn) 1 0) x xs

next_of_eight : (n : ℕ) → (n % 8 + 1) % 8 ≡ (1 + n) % 8
next_of_eight n = omega arith

-- what is given of a reading, by whether it is selected and the gateway ready
chosen_same : (a b ready : Bool) (sent_one sent_two told_one told_two : List Emit) → a ≡ b → sent_one ≡ sent_two → (ready ≡ false → told_one ≡ told_two)
    → (if not a then [] else if ready then sent_one else told_one) ≡ (if not b then [] else if ready then sent_two else told_two)
chosen_same a b true sent_one sent_two told_one told_two e f g = ap (λ (x : Bool). if not x then [] else sent_one) e ∙ ap (λ (x : List Emit). if not b then [] else x) f
chosen_same a b false sent_one sent_two told_one told_two e f g = ap (λ (x : Bool). if not x then [] else told_one) e ∙ ap (λ (x : List Emit). if not b then [] else x) (g refl)

module _ (c : Settings) (older : List NetReading) (k : ReadingsKept) (st : StandsReadings c older k) (t : Taken) (place : ℕ) (r : Reading) (at : place_of c t.source ≡ Some place) where
  abbrev l : LineHeard
  l = record { moment = t.moment; ready = t.ready; place = t.place; source = place; optional = c.optional_sentences }

  abbrev n : NetReading
  n = record { line = t; reading = r }

  abbrev x : Note
  x = note_by l r

  selected : is_chosen k l r ≡ is_net_selected c older n
  selected = first_net_by_notes c older n (row_at k.choices (row_of r)) place (st.notes (row_of r)) at

  -- ---- the notes

  here : (s : Row) → row_number (row_of r) ≡ row_number s → row_at (with_noted k.choices (row_number (row_of r)) x) s ≡ noted (row_at k.choices s) x
  here s e =
      get_or-set_at k.choices.subjects (row_number (row_of r)) (row_number s) (noted (row_at k.choices (row_of r)) x) (nothing 0 0) (sym e) (omega (arith, row_below (row_of r), st.rows))
      ∙ ap (λ (i : ℕ). noted (get_or k.choices.subjects i (nothing 0 0)) x) e

  elsewhere : (s : Row) → row_number (row_of r) ≢ row_number s → row_at (with_noted k.choices (row_number (row_of r)) x) s ≡ row_at k.choices s
  elsewhere s apart = get_or-set_other k.choices.subjects (row_number (row_of r)) (row_number s) (noted (row_at k.choices (row_of r)) x) (nothing 0 0) (λ e. apart (sym e))

  module _ (s : Row) (e : row_number (row_of r) ≡ row_number s) where
    is_of_row : is_row s (Some r) ≡ true
    is_of_row = eq-eqb (row_number (row_of r)) (row_number s) e

    heard_here : last_heard s t.source (n ∷ older) ≡ Some n
    heard_here = rw (text_same t.source, is_of_row) refl

    heard_past : (source : List ℕ) → same_text t.source source ≡ false → last_heard s source (n ∷ older) ≡ last_heard s source older
    heard_past source other = rw other refl

    found : (source : List ℕ) (p : ℕ) → place_of c source ≡ Some p → (b : Bool) → (p == place) ≡ b → note_of p (with_note x (row_at k.choices s).notes) ≡ net_noted p (last_heard s source (n ∷ older))
    found source p es true same =
        let it : p ≡ place = eqb-true p place same in
        let one : t.source ≡ source = one_source c t.source source place at (es ∙ ap Some it) in
        ap (λ (q : ℕ). note_of q (with_note x (row_at k.choices s).notes)) it
        ∙ noted_here x (row_at k.choices s).notes
        ∙ ap (λ (q : ℕ). net_noted q (Some n)) (sym it)
        ∙ ap (net_noted p) (sym heard_here)
        ∙ ap (λ (a : List ℕ). net_noted p (last_heard s a (n ∷ older))) one
    found source p es false other =
        let apart : p ≢ place = eqb-false p place other in
        others_noted x (row_at k.choices s).notes p apart
        ∙ (st.notes s).notes source p es
        ∙ ap (net_noted p) (sym (heard_past source (differs (same_text t.source source) refl)))
      where
        differs : (b : Bool) → same_text t.source source ≡ b → b ≡ false
        differs true same =
            let one : t.source ≡ source = text_is t.source source same in
            let both : Some p ≡ Some place = sym es ∙ ap (place_of c) (sym one) ∙ at in
            let equal : p ≡ place = cc in
            absurd (eqb-false p place other equal)
        differs false same = refl

    listed : (p : ℕ) (y : Note) → note_of p (with_note x (row_at k.choices s).notes) ≡ Some y → (b : Bool) → (p == place) ≡ b → (source : List ℕ) × (place_of c source ≡ Some p)
    listed p y ey true same = (t.source, at ∙ ap Some (sym (eqb-true p place same)))
    listed p y ey false other = (st.notes s).listed p y (sym (others_noted x (row_at k.choices s).notes p (eqb-false p place other)) ∙ ey)

    notes_here : HoldsNetNotes c s (n ∷ older) (noted (row_at k.choices s) x)
    notes_here = record {
      timeout = (st.notes s).timeout;
      apart = from_with 0 (row_at k.choices s).sources x (row_at k.choices s).notes (omega arith) (omega (arith, st.each_row s, place_below c t.source place at)) (st.notes s).apart;
      notes = λ source p es. found source p es (p == place) refl;
      listed = λ p y ey. listed p y ey (p == place) refl;
    }

  module _ (s : Row) (apart : (row_number (row_of r) == row_number s) ≡ false) where
    heard_still : (source : List ℕ) → last_heard s source (n ∷ older) ≡ last_heard s source older
    heard_still source = by (same_text t.source source)
      where
        by : (b : Bool) → (if b && is_row s (Some r) then Some n else last_heard s source older) ≡ last_heard s source older
        by true = rw apart refl
        by false = refl

    notes_elsewhere : HoldsNetNotes c s (n ∷ older) (row_at k.choices s)
    notes_elsewhere = let old = st.notes s in record {
      timeout = old.timeout;
      apart = old.apart;
      notes = λ source p es. old.notes source p es ∙ ap (net_noted p) (sym (heard_still source));
      listed = old.listed;
    }

  sources_then : (s : Row) (b : Bool) → (row_number (row_of r) == row_number s) ≡ b → (row_at (with_noted k.choices (row_number (row_of r)) x) s).sources ≡ length c.net_sources
  sources_then s true e = ap (λ (y : SubjectNotes). y.sources) (here s (eqb-true (row_number (row_of r)) (row_number s) e)) ∙ st.each_row s
  sources_then s false e = ap (λ (y : SubjectNotes). y.sources) (elsewhere s (eqb-false (row_number (row_of r)) (row_number s) e)) ∙ st.each_row s

  notes_then : (s : Row) (b : Bool) → (row_number (row_of r) == row_number s) ≡ b → HoldsNetNotes c s (n ∷ older) (row_at (with_noted k.choices (row_number (row_of r)) x) s)
  notes_then s true e =
      let same = eqb-true (row_number (row_of r)) (row_number s) e in
      subst (HoldsNetNotes c s (n ∷ older)) (sym (here s same)) (notes_here s same)
  notes_then s false e = subst (HoldsNetNotes c s (n ∷ older)) (sym (elsewhere s (eqb-false (row_number (row_of r)) (row_number s) e))) (notes_elsewhere s e)

  -- ---- the sequences

  goes : is_counted k l r ≡ goes_fast c older n
  goes = ap (λ (b : Bool). b && (t.ready && is_fast_row (row_of r))) selected

  abbrev more : ℕ
  more = (sequence_at k (row_of r) + 1) % 8

  counts_then : (s : Row) → is_fast_row s ≡ true → (b : Bool) → is_counted k l r ≡ b → sequence_at (reading_after k l r) s ≡ next_sequence c (n ∷ older) (pgn_of s)
  counts_then s fast false e =
      let kept : sequences_after k l r ≡ k.sequences = rw e refl in
      let sent_still : fast_sent c (n ∷ older) ≡ fast_sent c older = readings_count_fast c older n ∙ rw (sym goes ∙ e) refl in
      ap (λ (xs : List ℕ). get_or xs (row_number s) 0) kept ∙ st.counts s fast
      ∙ ap (λ (xs : List ℕ). count_by (λ p. p == pgn_of s) xs % 8) (sym sent_still)
  counts_then s fast true e =
      let kept : sequences_after k l r ≡ set k.sequences (row_number (row_of r)) more = rw e refl in
      let sent_too : fast_sent c (n ∷ older) ≡ pgn_of (row_of r) ∷ fast_sent c older = readings_count_fast c older n ∙ rw (sym goes ∙ e) refl in
      let goes_as = (and_parts t.ready (is_fast_row (row_of r)) (and_parts (is_chosen k l r) (t.ready && is_fast_row (row_of r)) e).1).1 in
      ap (λ (xs : List ℕ). get_or xs (row_number s) 0) kept
      ∙ at_row goes_as (row_number (row_of r) == row_number s) refl
      ∙ ap (λ (xs : List ℕ). count_by (λ p. p == pgn_of s) xs % 8) (sym sent_too)
    where
      at_row : is_fast_row (row_of r) ≡ true → (b : Bool) → (row_number (row_of r) == row_number s) ≡ b
          → get_or (set k.sequences (row_number (row_of r)) more) (row_number s) 0 ≡ count_by (λ p. p == pgn_of s) (pgn_of (row_of r) ∷ fast_sent c older) % 8
      at_row goes_as true same =
          let number = eqb-true (row_number (row_of r)) (row_number s) same in
          let pgn : pgn_of (row_of r) ≡ pgn_of s = by_number (row_of r) s goes_as fast number in
          let counted : sequence_at k (row_of r) ≡ next_sequence c older (pgn_of s) = st.counts (row_of r) goes_as ∙ ap (next_sequence c older) pgn in
          let one : count_by (λ p. p == pgn_of s) (pgn_of (row_of r) ∷ fast_sent c older) ≡ 1 + count_by (λ p. p == pgn_of s) (fast_sent c older) =
          count_more (fast_sent c older) (pgn_of (row_of r)) (pgn_of s) ∙ rw (eq-eqb (pgn_of (row_of r)) (pgn_of s) pgn) refl in
          get_or-set_at k.sequences (row_number (row_of r)) (row_number s) more 0 (sym number) (omega (arith, row_below (row_of r), st.numbers))
          ∙ ap (λ (i : ℕ). (i + 1) % 8) counted
          ∙ next_of_eight (count_by (λ p. p == pgn_of s) (fast_sent c older))
          ∙ ap (λ (i : ℕ). i % 8) (sym one)
      at_row goes_as false other =
          let number = eqb-false (row_number (row_of r)) (row_number s) other in
          let pgn : (pgn_of (row_of r) == pgn_of s) ≡ false = ne_eqb (pgn_of (row_of r)) (pgn_of s) (λ e. number (by_pgn (row_of r) s goes_as fast e)) in
          let none : count_by (λ p. p == pgn_of s) (pgn_of (row_of r) ∷ fast_sent c older) ≡ count_by (λ p. p == pgn_of s) (fast_sent c older) =
          count_more (fast_sent c older) (pgn_of (row_of r)) (pgn_of s) ∙ rw pgn (omega arith) in
          get_or-set_other k.sequences (row_number (row_of r)) (row_number s) more 0 (λ e. number (sym e))
          ∙ st.counts s fast
          ∙ ap (λ (i : ℕ). i % 8) (sym none)

  numbers_then : (b : Bool) → is_counted k l r ≡ b → length (sequences_after k l r) ≡ length row_numbers
  numbers_then true e = rw e (length-set k.sequences (row_number (row_of r)) more ∙ st.numbers)
  numbers_then false e = rw e st.numbers

  pub reading_stands : StandsReadings c (n ∷ older) (reading_after k l r)
  reading_stands = record {
    sources = st.sources;
    rows = length-set k.choices.subjects (row_number (row_of r)) (noted (row_at k.choices (row_of r)) x) ∙ st.rows;
    numbers = numbers_then (is_counted k l r) refl;
    each_row = λ s. sources_then s (row_number (row_of r) == row_number s) refl;
    notes = λ s. notes_then s (row_number (row_of r) == row_number s) refl;
    counts = λ s fast. counts_then s fast (is_counted k l r) refl;
  }

  -- ---- what it gives

  module _ (own : Option ℕ) where
    frames_same : (b : Bool) → is_fast_row (row_of r) ≡ b → frames_by k r ≡ payload_frames c own older n
    frames_same true fast = rw fast (ap (λ (i : ℕ). frames_of i (payload_of r)) (st.counts (row_of r) fast))
    frames_same false single = rw single refl

    sent_same : (address : Option ℕ) → sent_by address k r ≡ sent_from c own address older n
    sent_same None = refl
    sent_same (Some address) =
        ap (λ (frames : List (List ℕ)). map (λ held. sent (priority_of (row_of r)) (pgn_of (row_of r)) 255 address held) frames) (frames_same (is_fast_row (row_of r)) refl)

    pub gives : reading_emits own k l r ≡ reading_gives c own older n
    gives =
        chosen_same (is_chosen k l r) (is_net_selected c older n) t.ready (sent_by own k r) (sent_from c own own older n)
        (broken not_ready (At t.place) ∷ []) (reported (reading_breaks n)) selected (sent_same own) (λ e. unready e)
      where
        unready : t.ready ≡ false → (broken not_ready (At t.place) ∷ []) ≡ reported (reading_breaks n)
        unready e = rw e refl

-- ---- the readings of a sentence, and the sentences of a line, of a source that is listed

both : {X : Type 0} (a b d e : List X) → a ≡ b → d ≡ e → a ++ d ≡ b ++ e
both a b d e f g = ap (λ x. x ++ d) f ∙ ap (λ x. b ++ x) g

module _ (c : Settings) (own : Option ℕ) (t : Taken) (place : ℕ) (at : place_of c t.source ≡ Some place) where
  abbrev from : LineHeard
  from = record { moment = t.moment; ready = t.ready; place = t.place; source = place; optional = c.optional_sentences }

  -- what is said, what is kept then and what was emitted: the one stands for the other
  pub record Says (older : List NetReading) (said : List (Result NetReading FieldFault)) (after : ReadingsKept) (emits : List Emit) : Type 0 where
    pub stands : StandsReadings c (with_readings older said) after
    pub gives : emits ≡ said_gives c own t older said

  readings_say : (rs : List Reading) (older : List NetReading) (k : ReadingsKept) → StandsReadings c older k → Says older (sentence_says t (Ok rs)) (readings_after k from rs) (readings_emit own k from rs)
  readings_say [] older k st = record { stands = st; gives = refl }
  readings_say (r ∷ rs) older k st =
      let n : NetReading = record { line = t; reading = r } in
      let more = readings_say rs (n ∷ older) (reading_after k from r) (reading_stands c older k st t place r at) in
      record {
        stands = more.stands;
        gives = both (reading_emits own k from r) (reading_gives c own older n) (readings_emit own (reading_after k from r) from rs)
            (said_gives c own t (n ∷ older) (sentence_says t (Ok rs))) (gives c older k st t place r at own) more.gives;
      }

  fault_same : (fault : FieldFault) → fault_emits t.place fault ≡ reported (sentence_breaks t fault)
  fault_same Outside = refl
  fault_same (Form field) = refl
  fault_same (Range field) = refl

  sentence_is : (said : Result (List Reading) FieldFault) (older : List NetReading) (k : ReadingsKept) → StandsReadings c older k → Says older (sentence_says t said) (said_after k from said) (said_emits own k from said)
  sentence_is (Ok rs) older k st = readings_say rs older k st
  sentence_is (Err fault) older k st = record { stands = st; gives = fault_same fault ∙ sym (append-nil (reported (sentence_breaks t fault))) }

  pub line_is : (texts : List (List ℕ)) (older : List NetReading) (k : ReadingsKept) → StandsReadings c older k → Says older (line_says c.optional_sentences t texts) (sentences_after k from texts) (sentences_emit own k from texts)
  line_is [] older k st = record { stands = st; gives = refl }
  line_is (text ∷ texts) older k st =
      let said = read_sentence c.optional_sentences text in
      let says = sentence_says t said in
      let others = line_says c.optional_sentences t texts in
      let one = sentence_is said older k st in
      let more = line_is texts (with_readings older says) (said_after k from said) one.stands in
      let order = datagrams_give_in_order c own in
      record {
        stands = subst (λ (x : List NetReading). StandsReadings c x (sentences_after k from (text ∷ texts))) (sym (order.readings older says others)) more.stands;
        gives = both (said_emits own k from said) (said_gives c own t older says) (sentences_emit own (said_after k from said) from texts)
            (said_gives c own t (with_readings older says) others) one.gives more.gives ∙ sym (order.said t older says others);
      }
