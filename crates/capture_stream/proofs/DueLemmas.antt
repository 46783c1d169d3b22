-- The text that is due for the line that the reader took.
use Rattle.std.proofs.Common.{◌≡◌, ℕ, ◌+◌, ◌≤◌, List, [], ◌∷◌, ◌++◌, length, refl, ap, ◌∙◌, subst, arith}
use Rattle.std.specs.Prelude.{Option, Result, Ok, Err}
use Rattle.gate_outside.specs.declared.Failed.{Failed}
use Rattle.std.proofs.lemmas.List.{length-append}
use Rattle.capture_stream.specs.declared.line_reader.Next.{Next}
use Rattle.capture_stream.specs.declared.line_reader.Next.TheVariants.{Line, Long, Unfinished, Usual}
use Rattle.capture_text.specs.Lines.{without_cr, lines_of, complete_lines}
use Rattle.capture_stream.specs.LineReader.{Held, Advances, Finishes, IsNextRead}
use Rattle.capture_text.specs.declared.line_rule.LineRule.{LineRule}
use Rattle.gate_events.specs.Event.{Seen}
use Rattle.capture_stream.specs.Lines.{IsTextFrom}
use Rattle.capture_stream.specs.Answering.{LineGives, NextGives}
use Rattle.capture_stream.proofs.SaidLemmas.{gives_long}
use Rattle.capture_stream.specs.Writer.{Sends, Writes}
use Rattle.capture_stream.specs.Progress.{StandsFor, Stand, Rested, WritesSome, TakesLast}
use Rattle.capture_stream.proofs.StandLemmas.{Begins, begins_with_line, begins_with_long, stand_line, stopped, last_put, ends_long, ends_line, Whole, whole_on, whole_sent, whole_stopped}

abbrev pub IsTaken : Next → Type 0
IsTaken (Usual moment f) = Unit {0}
IsTaken Line = Unit {0}
IsTaken Long = Unit {0}
IsTaken Unfinished = ⊥

-- the line that was taken, and its text
pub record Due {A : Type 0} (Gives : A → ℕ → Result Seen LineRule → List ℕ → A → Type 0) (before after : A) (rest : List ℕ) (new : Held) (text : List ℕ) (number : ℕ) : Type 0 where
  pub raw : List ℕ
  pub begins : Begins rest new raw
  pub gives : LineGives Gives before number (without_cr raw) text after

due_line : {A : Type 0} (Gives : A → ℕ → Result Seen LineRule → List ℕ → A → Type 0) (before after : A) (old new : Held) (rest : List ℕ) (number : ℕ) (text : List ℕ) → StandsFor old rest → Advances old new Line
    → LineGives Gives before number new.line text after → Due Gives before after rest new text number
due_line Gives before after old new rest number text s a is = record {
  raw = a.0;
  begins = begins_with_line old new rest a.0 s a.1 a.2.whole;
  gives = subst (λ (l : List ℕ). LineGives Gives before number l text after) a.2.line is;
}

due : {A : Type 0} (Gives : A → ℕ → Result Seen LineRule → List ℕ → A → Type 0) (before after : A) (old new : Held) (rest : List ℕ) (next : Next) (number : ℕ) (text : List ℕ) → StandsFor old rest → Advances old new next → IsTaken next
    → NextGives Gives before next number new.line text after → Due Gives before after rest new text number
due Gives before after old new rest (Usual moment f) number text s a taken is = due_line Gives before after old new rest number text s a.0 is
due Gives before after old new rest Line number text s a taken is = due_line Gives before after old new rest number text s a is
due Gives before after old new rest Long number text s a taken is =
    let b = begins_with_long old new rest a.0 s a.1 a.2 in
    record { raw = b.raw; begins = b.begins; gives = gives_long Gives before after number (without_cr b.raw) text b.long is }
due Gives before after old new rest Unfinished number text s a taken is = absurd taken

pub fewer_unread : (old new : Held) (next : Next) → Advances old new next → IsTaken next → length new.unread + 1 ≤ length old.unread
fewer_unread old new (Usual moment f) a taken = omega (arith, ap length a.0.1.whole, length-append a.0.0 (10 ∷ new.unread))
fewer_unread old new Line a taken = omega (arith, ap length a.1.whole, length-append a.0 (10 ∷ new.unread))
fewer_unread old new Long a taken = omega (arith, ap length a.1.whole, length-append a.0 (10 ∷ new.unread))
fewer_unread old new Unfinished a taken = absurd taken

-- the line that was taken has had its text
pub line_done : {A : Type 0} (Gives : A → ℕ → Result Seen LineRule → List ℕ → A → Type 0) (first before after : A) (left left' told told' told'' : Option (List ℕ)) (old new : Held) (waiting waiting' text : List ℕ) (number size : ℕ) (next : Next)
    → (s : Stand (LineGives Gives) first left left' told told' old waiting number size before) → Advances old new next → IsTaken next
    → NextGives Gives before next (number + 1) new.line text after → Sends told' told'' (waiting ++ text) waiting'
    → (t : Stand (LineGives Gives) first left left' told told'' new waiting' (number + 1) size after) × (t.read ≡ s.read)
line_done Gives first before after left left' told told' told'' old new waiting waiting' text number size next s a taken is sends =
    let d = due Gives before after old new s.rest next (number + 1) text s.holds a taken is in
    stand_line (LineGives Gives) first before after left left' told told' told'' old new waiting waiting' number size d.raw text s d.begins d.gives sends

-- some of its text was written, and no more
pub line_stopped : {A : Type 0} (Gives : A → ℕ → Result Seen LineRule → List ℕ → A → Type 0) (first before after : A) (left left' told told' told'' : Option (List ℕ)) (old new : Held) (waiting some text : List ℕ) (number size : ℕ) (next : Next)
    → (s : Stand (LineGives Gives) first left left' told told' old waiting number size before) → Advances old new next → IsTaken next
    → NextGives Gives before next (number + 1) new.line text after → Sends told' told'' (waiting ++ text) some
    → WritesSome (IsTextFrom (LineGives Gives) first) told told'' (complete_lines s.read)
line_stopped Gives first before after left left' told told' told'' old new waiting some text number size next s a taken is sends =
    let t = line_done Gives first before after left left' told told' told'' old new waiting some text number size next s a taken is sends in
    subst (λ (r : List ℕ). WritesSome (IsTextFrom (LineGives Gives) first) told told'' (complete_lines r)) t.1
    (stopped (LineGives Gives) first after left left' told told'' new some (number + 1) size t.0)

pub is_taken : (next : Next) → (next ≡ Unfinished → ⊥) → IsTaken next
is_taken (Usual moment f) other = tt
is_taken Line other = tt
is_taken Long other = tt
is_taken Unfinished other = other refl

last_due : {A : Type 0} (Gives : A → ℕ → Result Seen LineRule → List ℕ → A → Type 0) (before after : A) (old new : Held) (rest : List ℕ) (next : Next) (number : ℕ) (text : List ℕ) → StandsFor old rest → Finishes old new next
    → NextGives Gives before next number new.line text after → LineGives Gives before number (without_cr rest) text after
last_due Gives before after old new rest (Usual moment u) number text s f is = absurd f
last_due Gives before after old new rest Line number text s f is =
    subst (λ (l : List ℕ). LineGives Gives before number l text after) (f.line ∙ ap without_cr (ends_line old rest s f.whole)) is
last_due Gives before after old new rest Long number text s f is = gives_long Gives before after number (without_cr rest) text (ends_long old rest s f) is
last_due Gives before after old new rest Unfinished number text s f is = absurd f

-- what is left of the whole text once that of the last line waits
pub last_waits : {A : Type 0} (Gives : A → ℕ → Result Seen LineRule → List ℕ → A → Type 0) (first before after : A) (left left' told told' told'' : Option (List ℕ)) (old new : Held) (waiting some text : List ℕ) (number size : ℕ) (next : Next)
    → (r : Rested (LineGives Gives) first left left' told told' old waiting number size before) → Finishes old new next
    → NextGives Gives before next (number + 1) new.line text after → Sends told' told'' (waiting ++ text) some
    → Whole (LineGives Gives) first told told'' (lines_of r.stand.read) some
last_waits Gives first before after left left' told told' told'' old new waiting some text number size next r f is sends =
    last_put (LineGives Gives) first before after left left' told told' told'' old waiting some text number size r
    (last_due Gives before after old new r.stand.rest next (number + 1) text r.stand.holds f is) sends

pub last_flushed : {A : Type 0} (Gives : A → ℕ → Result Seen LineRule → List ℕ → A → Type 0) (before after : A) (told' mid told'' : Option (List ℕ)) (old new : Held) (waiting left' text : List ℕ) (number : ℕ) (next : Next) (result : Result (Unit {0}) Failed)
    → Finishes old new next → NextGives Gives before next (number + 1) new.line text after → Sends told' mid (waiting ++ text) left' → Writes mid told'' left' [] result
    → TakesLast (LineGives Gives) told' told'' old waiting number before result
last_flushed Gives before after told' mid told'' old new waiting left' text number next (Ok done) f is put flush = λ first left gone told size r.
    let lines = lines_of r.stand.read in
    whole_sent (LineGives Gives) first told told'' lines (whole_on (LineGives Gives) first told mid told'' lines left' []
    (last_waits Gives first before after left gone told told' mid old new waiting left' text number size next r f is put) flush)
last_flushed Gives before after told' mid told'' old new waiting left' text number next (Err e) f is put flush = λ first left gone told size r.
    let lines = lines_of r.stand.read in
    whole_stopped (LineGives Gives) first told told'' lines flush.0 (whole_on (LineGives Gives) first told mid told'' lines left' flush.0
    (last_waits Gives first before after left gone told told' mid old new waiting left' text number size next r f is put) flush.1)

-- ---- what is said of the line that was taken

pub taken_is_read : (old new : Held) (next : Next) → Advances old new next → IsNextRead next new.line
taken_is_read old new (Usual moment f) a = a.1
taken_is_read old new Line a = tt
taken_is_read old new Long a = tt
taken_is_read old new Unfinished a = tt

pub finished_is_read : (old new : Held) (next : Next) → Finishes old new next → IsNextRead next new.line
finished_is_read old new (Usual moment f) a = absurd a
finished_is_read old new Line a = tt
finished_is_read old new Long a = tt
finished_is_read old new Unfinished a = tt
