-- How a command over lines begins and ends.
use Rattle.std.proofs.Common.{◌≡◌, ℕ, ◌+◌, ◌≤◌, ◌⊎◌, false, List, [], ◌++◌, length, take, refl, sym, ap, ◌∙◌, subst, inl, inr, arith}
use Rattle.std.specs.Prelude.{Option, Some, None}
use Rattle.std.proofs.lemmas.List.{append-nil, nil_from_length}
use Rattle.gate_outside.specs.Told.{Leaves}
use Rattle.capture_text.specs.Lines.{lines_of, complete_lines}
use Rattle.capture_stream.specs.Lines.{AreTexts, IsTextFrom}
use Rattle.capture_stream.specs.LineReader.{Held, IsEnd, Came}
use Rattle.capture_stream.specs.Writer.{Sends}
use Rattle.capture_stream.specs.declared.ending.Ending.{Ending}
use Rattle.capture_stream.specs.declared.ending.Ending.TheVariants.{Done, SinkFailed, SourceFailed, TooLong}
use Rattle.capture_stream.specs.Progress.{input_limit, StandsFor, Stand, Rested, AreAll, WritesSome, Finishes, StopsReading, StopsWriting, PassesLimit, WritesAll, Ends}
use Rattle.capture_stream.proofs.WriterLemmas.{Sends-none}
use Rattle.capture_stream.proofs.ProgressLemmas.{cut_none, complete_of_cut}
use Rattle.capture_stream.proofs.StandLemmas.{Leaves-then, stand_sent, stands_filled, stopped, all_sent}

Leaves-nil : (left : Option (List ℕ)) → Leaves left left []
Leaves-nil None = tt
Leaves-nil (Some bytes) = refl

-- before the first read
pub begins : {A : Type 0} (Gives : A → ℕ → List ℕ → List ℕ → A → Type 0) (first : A) (left told : Option (List ℕ)) (held : Held) → held.unread ≡ [] → held.skipping ≡ false → Rested Gives first left left told told held [] 0 0 first
begins Gives first left told held unread starts = record {
  stand = record {
    read = [];
    lines = [];
    rest = [];
    leaves = Leaves-nil left;
    sized = refl;
    cut = cut_none;
    holds = inl (starts, unread);
    counted = refl;
    done = [];
    texts = (refl, refl);
    sends = Sends-none told [];
  };
  no_lf = λ k d lt. absurd (omega arith);
  room = omega (arith, ap length unread);
}

-- what waited was written
pub rested_sent : {A : Type 0} (Gives : A → ℕ → List ℕ → List ℕ → A → Type 0) (first now : A) (left left' told told' told'' : Option (List ℕ)) (held : Held) (waiting : List ℕ) (number size : ℕ)
    → Rested Gives first left left' told told' held waiting number size now → Sends told' told'' waiting [] → Rested Gives first left left' told told'' held [] number size now
rested_sent Gives first now left left' told told' told'' held waiting number size r sends = record {
  stand = stand_sent Gives first now left left' told told' told'' held waiting [] number size r.stand sends;
  no_lf = r.no_lf;
  room = r.room;
}

-- a write of what waited failed
pub flush_failed : {A : Type 0} (Gives : A → ℕ → List ℕ → List ℕ → A → Type 0) (first now : A) (left left' told told' told'' : Option (List ℕ)) (held : Held) (waiting some : List ℕ) (number size : ℕ)
    → Rested Gives first left left' told told' held waiting number size now → Sends told' told'' waiting some → size ≤ input_limit → StopsWriting (IsTextFrom Gives first) left left' told told''
flush_failed Gives first now left left' told told' told'' held waiting some number size r sends within =
    let s : Stand Gives first left left' told told'' held some number size now = stand_sent Gives first now left left' told told' told'' held waiting some number size r.stand sends in
    record { read = s.read; leaves = s.leaves; within = omega (arith, s.sized); writes = inl (stopped Gives first now left left' told told'' held some number size s) }

-- a read failed, when nothing waited
pub read_failed : {A : Type 0} (Gives : A → ℕ → List ℕ → List ℕ → A → Type 0) (first now : A) (left left' left'' told told' : Option (List ℕ)) (held : Held) (number size : ℕ)
    → Rested Gives first left left' told told' held [] number size now → Leaves left' left'' [] → size ≤ input_limit → StopsReading (IsTextFrom Gives first) left left'' told told'
read_failed Gives first now left left' left'' told told' held number size r leaves within =
    let s = r.stand in
    record {
      read = s.read;
      leaves = subst (λ (xs : List ℕ). Leaves left left'' xs) (append-nil s.read) (Leaves-then left left' left'' s.read [] s.leaves leaves);
      within = omega (arith, s.sized);
      writes = record {
        text = s.done;
        is_text = (now, subst (λ (ps : List (List ℕ)). AreTexts Gives first 1 ps s.done now) (sym (complete_of_cut s.read s.lines s.rest s.cut r.no_lf)) s.texts);
        joins = all_sent told told' s.done s.sends;
      };
    }

-- more came than an input may have
pub limit_passed : {A : Type 0} (Gives : A → ℕ → List ℕ → List ℕ → A → Type 0) (first now : A) (left left' told told' : Option (List ℕ)) (held : Held) (waiting : List ℕ) (number size : ℕ)
    → Stand Gives first left left' told told' held waiting number size now → size ≡ input_limit + 1 → PassesLimit (IsTextFrom Gives first) left left' told told'
limit_passed Gives first now left left' told told' held waiting number size s beyond = record {
  read = s.read;
  leaves = s.leaves;
  beyond = sym s.sized ∙ beyond;
  writes = stopped Gives first now left left' told told' held waiting number size s;
}

-- the text of a line was written in part
pub lines_failed : {A : Type 0} (Gives : A → ℕ → List ℕ → List ℕ → A → Type 0) (first now : A) (left left' told told' told'' : Option (List ℕ)) (held : Held) (waiting : List ℕ) (number size : ℕ)
    → (s : Stand Gives first left left' told told' held waiting number size now) → size ≤ input_limit → WritesSome (IsTextFrom Gives first) told told'' (complete_lines s.read) → StopsWriting (IsTextFrom Gives first) left left' told told''
lines_failed Gives first now left left' told told' told'' held waiting number size s within writes = record { read = s.read; leaves = s.leaves; within = omega (arith, s.sized); writes = inl writes }

are_all : (left left' : Option (List ℕ)) (read : List ℕ) → Leaves left left' read → IsEnd left' → AreAll left read
are_all None left' read leaves end = λ bytes told. absurd cc
are_all (Some all) None read leaves end = absurd leaves
are_all (Some all) (Some rest) read leaves end = λ bytes told.
    let same : all ≡ bytes = cc in
    sym (append-nil read) ∙ (ap (λ (xs : List ℕ). read ++ xs) (sym (end rest refl)) ∙ (sym leaves ∙ same))

-- nothing is left of the input
pub record Ended {A : Type 0} (Gives : A → ℕ → List ℕ → List ℕ → A → Type 0) (first : A) (left left' told told' : Option (List ℕ)) (held : Held) (waiting : List ℕ) (number size : ℕ) (now : A) : Type 0 where
  pub rested : Rested Gives first left left' told told' held waiting number size now
  pub all : AreAll left rested.stand.read

pub rested_end : {A : Type 0} (Gives : A → ℕ → List ℕ → List ℕ → A → Type 0) (first now : A) (left left' left'' told told' : Option (List ℕ)) (old new : Held) (waiting piece : List ℕ) (number size count : ℕ)
    → Rested Gives first left left' told told' old waiting number size now → Came left' left'' count piece → count ≡ 0 → new.unread ≡ old.unread ++ piece → new.skipping ≡ old.skipping
    → Ended Gives first left left'' told told' new waiting number size now
rested_end Gives first now left left' left'' told told' old new waiting piece number size count r came none unread same =
    let s = r.stand in
    let nothing : piece ≡ [] = nil_from_length piece (sym came.counted ∙ none) in
    let leaves : Leaves left' left'' [] = subst (λ (xs : List ℕ). Leaves left' left'' xs) nothing came.leaves in
    let kept : new.unread ≡ old.unread ++ [] = unread ∙ ap (λ (xs : List ℕ). old.unread ++ xs) nothing in
    record {
      rested = record {
        stand = record {
          read = s.read;
          lines = s.lines;
          rest = s.rest;
          leaves = subst (λ (xs : List ℕ). Leaves left left'' xs) (append-nil s.read) (Leaves-then left left' left'' s.read [] s.leaves leaves);
          sized = s.sized;
          cut = s.cut;
          holds = subst (λ (xs : List ℕ). StandsFor new xs) (append-nil s.rest) (stands_filled old new s.rest [] s.holds kept same);
          counted = s.counted;
          done = s.done;
          texts = s.texts;
          sends = s.sends;
        };
        no_lf = r.no_lf;
        room = omega (arith, ap length (kept ∙ append-nil old.unread), r.room);
      };
      all = are_all left left' s.read s.leaves (came.end none);
    }

-- all was read, and its text written
pub finished : {A : Type 0} (Gives : A → ℕ → List ℕ → List ℕ → A → Type 0) (first now : A) (left left' told told' told'' : Option (List ℕ)) (held : Held) (waiting : List ℕ) (number size : ℕ)
    → (e : Ended Gives first left left' told told' held waiting number size now) → size ≤ input_limit → WritesAll (IsTextFrom Gives first) told told'' (lines_of e.rested.stand.read) → Finishes (IsTextFrom Gives first) left left' told told''
finished Gives first now left left' told told' told'' held waiting number size e within writes =
    let s = e.rested.stand in
    record { read = s.read; leaves = s.leaves; all = e.all; within = omega (arith, s.sized); writes = writes }

-- all was read, and its text was written in part
pub last_failed : {A : Type 0} (Gives : A → ℕ → List ℕ → List ℕ → A → Type 0) (first now : A) (left left' told told' told'' : Option (List ℕ)) (held : Held) (waiting : List ℕ) (number size : ℕ)
    → (e : Ended Gives first left left' told told' held waiting number size now) → size ≤ input_limit → WritesSome (IsTextFrom Gives first) told told'' (lines_of e.rested.stand.read) → StopsWriting (IsTextFrom Gives first) left left' told told''
last_failed Gives first now left left' told told' told'' held waiting number size e within writes =
    let s = e.rested.stand in
    record { read = s.read; leaves = s.leaves; within = omega (arith, s.sized); writes = inr (e.all, writes) }

-- ---- what else the text of lines is

writes_all_as : (IsText More : List (List ℕ) → List ℕ → Type 0) (told told' : Option (List ℕ)) (lines : List (List ℕ)) → ((ls : List (List ℕ)) (text : List ℕ) → IsText ls text → More ls text)
    → WritesAll IsText told told' lines → WritesAll More told told' lines
writes_all_as IsText More told told' lines more w = record { text = w.text; is_text = more lines w.text w.is_text; joins = w.joins }

writes_some_as : (IsText More : List (List ℕ) → List ℕ → Type 0) (told told' : Option (List ℕ)) (lines : List (List ℕ)) → ((ls : List (List ℕ)) (text : List ℕ) → IsText ls text → More ls text)
    → WritesSome IsText told told' lines → WritesSome More told told' lines
writes_some_as IsText More told told' lines more w = record {
  written = w.written;
  joins = w.joins;
  count = w.count;
  text = w.text;
  is_text = more (take w.count lines) w.text w.is_text;
  unwritten = w.unwritten;
  front = w.front;
}

some_or_all_as : (IsText More : List (List ℕ) → List ℕ → Type 0) (left told told' : Option (List ℕ)) (read : List ℕ) → ((ls : List (List ℕ)) (text : List ℕ) → IsText ls text → More ls text)
    → WritesSome IsText told told' (complete_lines read) ⊎ (AreAll left read × WritesSome IsText told told' (lines_of read))
    → WritesSome More told told' (complete_lines read) ⊎ (AreAll left read × WritesSome More told told' (lines_of read))
some_or_all_as IsText More left told told' read more (inl w) = inl (writes_some_as IsText More told told' (complete_lines read) more w)
some_or_all_as IsText More left told told' read more (inr w) = inr (w.0, writes_some_as IsText More told told' (lines_of read) more w.1)

-- a command whose text is also what this says ends so by this too
pub ends_as : (IsText More : List (List ℕ) → List ℕ → Type 0) (left left' told told' : Option (List ℕ)) (ending : Ending) → ((ls : List (List ℕ)) (text : List ℕ) → IsText ls text → More ls text)
    → Ends IsText left left' told told' ending → Ends More left left' told told' ending
ends_as IsText More left left' told told' Done more e =
    record { read = e.read; leaves = e.leaves; all = e.all; within = e.within; writes = writes_all_as IsText More told told' (lines_of e.read) more e.writes }
ends_as IsText More left left' told told' SinkFailed more e =
    record { read = e.read; leaves = e.leaves; within = e.within; writes = some_or_all_as IsText More left told told' e.read more e.writes }
ends_as IsText More left left' told told' SourceFailed more e =
    record { read = e.read; leaves = e.leaves; within = e.within; writes = writes_all_as IsText More told told' (complete_lines e.read) more e.writes }
ends_as IsText More left left' told told' TooLong more e =
    record { read = e.read; leaves = e.leaves; beyond = e.beyond; writes = writes_some_as IsText More told told' (complete_lines e.read) more e.writes }
