-- What one more step does to where a command over lines stands.
use Rattle.std.proofs.Common.{◌≡◌, ℕ, ◌+◌, ◌<◌, ◌≤◌, ◌⊎◌, true, false, List, [], ◌∷◌, ◌++◌, length, map, refl, sym, ap, ◌∙◌, subst, inl, inr, append_assoc, arith}
use Rattle.std.specs.Prelude.{Option, Some, None}
use Rattle.std.proofs.lemmas.List.{append-nil, length-append, length-map, map-append, take_all}
use Rattle.std.proofs.lemmas.List.Elements.{All-append}
use Rattle.gate_outside.specs.Told.{Leaves, Joins}
use Rattle.capture_text.specs.Lines.{is_lf, without_cr, lines_of, complete_lines}
use Rattle.capture_text.proofs.LineEnds.{without_cr-len}
use Rattle.capture_stream.specs.Lines.{AreTexts, IsTextFrom}
use Rattle.capture_stream.specs.LineReader.{most_unread, Held, HasNoLf, Takes, EndsLongLine, Waits}
use Rattle.capture_stream.specs.Writer.{Sends}
use Rattle.std.specs.List.{flat_map}
use Rattle.capture_stream.specs.Progress.{with_lf, StandsFor, Stand, Rested, WritesSome, WritesAll}
use Rattle.capture_stream.proofs.WriterLemmas.{Joins-then, Sends-then}
use Rattle.capture_stream.proofs.ProgressLemmas.{cut_more, cut_line, whole_of_cut, front_of_cut, AreTexts-push}
use Rattle.capture_text.specs.Capture.{longest_line}

-- ---- what the reader holds

-- a line and its LF stand at the front of the rest
pub record Begins (rest : List ℕ) (new : Held) (raw : List ℕ) : Type 0 where
  pub split : rest ≡ raw ++ 10 ∷ new.unread
  pub no_lf : HasNoLf raw
  pub holds : StandsFor new new.unread

pub begins_with_line : (old new : Held) (rest raw : List ℕ) → StandsFor old rest → Takes old new raw → old.skipping ≡ false → Begins rest new raw
begins_with_line old new rest raw (inl s) takes held = record { split = sym s.1 ∙ takes.whole; no_lf = takes.no_lf; holds = inl (takes.starts, refl) }
begins_with_line old new rest raw (inr s) takes held = absurd (let e : true ≡ false = sym s.0 ∙ held in cc)

-- a line that is too long, whole again
pub record BeginsLong (rest : List ℕ) (new : Held) : Type 0 where
  pub raw : List ℕ
  pub begins : Begins rest new raw
  pub long : longest_line < length (without_cr raw)

pub begins_with_long : (old new : Held) (rest raw : List ℕ) → StandsFor old rest → Takes old new raw → EndsLongLine old raw → BeginsLong rest new
begins_with_long old new rest raw (inl s) takes (inl skipping) = absurd (let e : true ≡ false = sym skipping ∙ s.0 in cc)
begins_with_long old new rest raw (inl s) takes (inr long) = record { raw = raw; begins = begins_with_line old new rest raw (inl s) takes s.0; long = long }
begins_with_long old new rest raw (inr s) takes ends = record {
  raw = s.1 ++ raw;
  begins = record {
    split = s.2 ∙ (ap (λ (xs : List ℕ). s.1 ++ xs) takes.whole ∙ sym (append_assoc s.1 raw (10 ∷ new.unread)));
    no_lf = All-append (λ b. is_lf b ≡ false) s.1 raw s.4 takes.no_lf;
    holds = inl (takes.starts, refl);
  };
  long = omega (arith, without_cr-len (s.1 ++ raw), length-append s.1 raw, s.3);
}

pub no_lf_waiting : (old new : Held) (rest : List ℕ) → StandsFor old rest → Waits old new → HasNoLf rest
no_lf_waiting old new rest (inl s) waits = subst HasNoLf s.1 waits.no_lf
no_lf_waiting old new rest (inr s) waits = subst HasNoLf (sym s.2) (All-append (λ b. is_lf b ≡ false) s.1 old.unread s.4 waits.no_lf)

waits_on : (old new : Held) (rest : List ℕ) → StandsFor old rest → HasNoLf old.unread → ((new.unread ≡ old.unread) × (new.skipping ≡ old.skipping)) ⊎ ((new.unread ≡ []) × (new.skipping ≡ true) × (most_unread < length old.unread)) → StandsFor new rest
waits_on old new rest (inl s) no_lf (inl k) = inl (k.1 ∙ s.0, k.0 ∙ s.1)
waits_on old new rest (inr s) no_lf (inl k) = inr (k.1 ∙ s.0, s.1, s.2 ∙ ap (λ (xs : List ℕ). s.1 ++ xs) (sym k.0), s.3, s.4)
waits_on old new rest (inl s) no_lf (inr k) = inr (k.1, old.unread, sym s.1 ∙ (sym (append-nil old.unread) ∙ ap (λ (xs : List ℕ). old.unread ++ xs) (sym k.0)), k.2, no_lf)
waits_on old new rest (inr s) no_lf (inr k) = inr (
  k.1,
  s.1 ++ old.unread,
  s.2 ∙ (sym (append-nil (s.1 ++ old.unread)) ∙ ap (λ (xs : List ℕ). (s.1 ++ old.unread) ++ xs) (sym k.0)),
  omega (arith, length-append s.1 old.unread, s.3),
  All-append (λ b. is_lf b ≡ false) s.1 old.unread s.4 no_lf,
)

pub stands_waiting : (old new : Held) (rest : List ℕ) → StandsFor old rest → Waits old new → StandsFor new rest
stands_waiting old new rest s waits = waits_on old new rest s waits.no_lf waits.keeps

pub stands_filled : (old new : Held) (rest piece : List ℕ) → StandsFor old rest → new.unread ≡ old.unread ++ piece → new.skipping ≡ old.skipping → StandsFor new (rest ++ piece)
stands_filled old new rest piece (inl s) unread same = inl (same ∙ s.0, unread ∙ ap (λ (xs : List ℕ). xs ++ piece) s.1)
stands_filled old new rest piece (inr s) unread same = inr (
  same ∙ s.0,
  s.1,
  ap (λ (xs : List ℕ). xs ++ piece) s.2 ∙ (append_assoc s.1 old.unread piece ∙ ap (λ (xs : List ℕ). s.1 ++ xs) (sym unread)),
  s.3,
  s.4,
)

-- ---- what was written

pub Leaves-then : (a b c : Option (List ℕ)) (x y : List ℕ) → Leaves a b x → Leaves b c y → Leaves a c (x ++ y)
Leaves-then None b c x y p q = tt
Leaves-then (Some a) None c x y p q = absurd p
Leaves-then (Some a) (Some b) None x y p q = absurd q
Leaves-then (Some a) (Some b) (Some c) x y p q = p ∙ (ap (λ (xs : List ℕ). x ++ xs) q ∙ sym (append_assoc x y c))

-- ---- where the command stands

-- a line has had its text
pub stand_line : {A : Type 0} (Gives : A → ℕ → List ℕ → List ℕ → A → Type 0) (first now after : A) (left left' told told' told'' : Option (List ℕ)) (old new : Held) (waiting waiting' : List ℕ) (number size : ℕ) (raw text : List ℕ)
    → (s : Stand Gives first left left' told told' old waiting number size now) → Begins s.rest new raw → Gives now (number + 1) (without_cr raw) text after → Sends told' told'' (waiting ++ text) waiting'
    → (t : Stand Gives first left left' told told'' new waiting' (number + 1) size after) × (t.read ≡ s.read)
stand_line Gives first now after left left' told told' told'' old new waiting waiting' number size raw text s b gives sends =
    let k : number + 1 ≡ 1 + length (map without_cr s.lines) = omega (arith, s.counted, length-map s.lines without_cr) in
    let pushed : AreTexts Gives first 1 (map without_cr s.lines ++ without_cr raw ∷ []) (s.done ++ text) after = AreTexts-push Gives first now after 1 (map without_cr s.lines) (without_cr raw) s.done text s.texts (subst (λ (j : ℕ). Gives now j (without_cr raw) text after) k gives) in (
      record {
        read = s.read;
        lines = s.lines ++ raw ∷ [];
        rest = new.unread;
        leaves = s.leaves;
        sized = s.sized;
        cut = cut_line s.read s.lines s.rest raw new.unread s.cut b.split b.no_lf;
        holds = b.holds;
        counted = omega (arith, s.counted, length-append s.lines (raw ∷ []));
        done = s.done ++ text;
        texts = subst (λ (ps : List (List ℕ)). AreTexts Gives first 1 ps (s.done ++ text) after) (sym (map-append without_cr s.lines (raw ∷ []))) pushed;
        sends = Sends-then told told' told'' s.done text waiting waiting' s.sends sends;
      },
      refl,
    )

-- some of what is due was written, and no more
pub stopped : {A : Type 0} (Gives : A → ℕ → List ℕ → List ℕ → A → Type 0) (first now : A) (left left' told told' : Option (List ℕ)) (held : Held) (waiting : List ℕ) (number size : ℕ) (s : Stand Gives first left left' told told' held waiting number size now)
    → WritesSome (IsTextFrom Gives first) told told' (complete_lines s.read)
stopped Gives first now left left' told told' held waiting number size s = record {
  written = s.sends.sent;
  joins = s.sends.joins;
  count = length s.lines;
  text = s.done;
  is_text = (now, subst (λ (ps : List (List ℕ)). AreTexts Gives first 1 ps s.done now) (sym (front_of_cut s.read s.lines s.rest s.cut)) s.texts);
  unwritten = waiting;
  front = s.sends.whole;
}

-- more of what waits was written
abbrev pub stand_sent : {A : Type 0} (Gives : A → ℕ → List ℕ → List ℕ → A → Type 0) (first now : A) (left left' told told' told'' : Option (List ℕ)) (held : Held) (waiting waiting' : List ℕ) (number size : ℕ)
    → Stand Gives first left left' told told' held waiting number size now → Sends told' told'' waiting waiting' → Stand Gives first left left' told told'' held waiting' number size now
stand_sent Gives first now left left' told told' told'' held waiting waiting' number size s sends =
    let more : Sends told' told'' (waiting ++ []) waiting' = subst (λ (t : List ℕ). Sends told' told'' t waiting') (sym (append-nil waiting)) sends in
    record {
      read = s.read;
      lines = s.lines;
      rest = s.rest;
      leaves = s.leaves;
      sized = s.sized;
      cut = s.cut;
      holds = s.holds;
      counted = s.counted;
      done = s.done;
      texts = s.texts;
      sends = subst (λ (t : List ℕ). Sends told told'' t waiting') (append-nil s.done) (Sends-then told told' told'' s.done [] waiting waiting' s.sends more);
    }

-- no whole line is left
pub stand_waiting : {A : Type 0} (Gives : A → ℕ → List ℕ → List ℕ → A → Type 0) (first now : A) (left left' told told' : Option (List ℕ)) (old new : Held) (waiting : List ℕ) (number size : ℕ)
    → Stand Gives first left left' told told' old waiting number size now → Waits old new → Rested Gives first left left' told told' new waiting number size now
stand_waiting Gives first now left left' told told' old new waiting number size s waits = record {
  stand = record {
    read = s.read;
    lines = s.lines;
    rest = s.rest;
    leaves = s.leaves;
    sized = s.sized;
    cut = s.cut;
    holds = stands_waiting old new s.rest s.holds waits;
    counted = s.counted;
    done = s.done;
    texts = s.texts;
    sends = s.sends;
  };
  no_lf = no_lf_waiting old new s.rest s.holds waits;
  room = waits.room;
}

-- more of the input came
abbrev pub stand_filled : {A : Type 0} (Gives : A → ℕ → List ℕ → List ℕ → A → Type 0) (first now : A) (left left' left'' told told' : Option (List ℕ)) (old new : Held) (waiting piece : List ℕ) (number size count : ℕ)
    → Stand Gives first left left' told told' old waiting number size now → Leaves left' left'' piece → count ≡ length piece → new.unread ≡ old.unread ++ piece → new.skipping ≡ old.skipping
    → Stand Gives first left left'' told told' new waiting number (size + count) now
stand_filled Gives first now left left' left'' told told' old new waiting piece number size count s leaves counted unread same = record {
  read = s.read ++ piece;
  lines = s.lines;
  rest = s.rest ++ piece;
  leaves = Leaves-then left left' left'' s.read piece s.leaves leaves;
  sized = omega (arith, s.sized, counted, length-append s.read piece);
  cut = cut_more s.read s.lines s.rest piece s.cut;
  holds = stands_filled old new s.rest piece s.holds unread same;
  counted = s.counted;
  done = s.done;
  texts = s.texts;
  sends = s.sends;
}

-- at most one line for each byte that was taken
lines_len : (lines : List (List ℕ)) → length lines ≤ length (flat_map with_lf lines)
lines_len [] = omega arith
lines_len (line ∷ lines) = omega (arith, lines_len lines, length-append (with_lf line) (flat_map with_lf lines), length-append line (10 ∷ []))

unread_len : (held : Held) (rest : List ℕ) → StandsFor held rest → length held.unread ≤ length rest
unread_len held rest (inl s) = omega (arith, ap length s.1)
unread_len held rest (inr s) = omega (arith, ap length s.2, length-append s.1 held.unread)

pub number_fits : {A : Type 0} (Gives : A → ℕ → List ℕ → List ℕ → A → Type 0) (first now : A) (left left' told told' : Option (List ℕ)) (held : Held) (waiting : List ℕ) (number size : ℕ)
    → Stand Gives first left left' told told' held waiting number size now → number + length held.unread ≤ size
number_fits Gives first now left left' told told' held waiting number size s =
    omega (arith, s.sized, s.counted, ap length s.cut.whole, length-append (flat_map with_lf s.lines) s.rest, lines_len s.lines, unread_len held s.rest s.holds)

-- ---- the end

pub Sends-on : (a b c : Option (List ℕ)) (done waiting left : List ℕ) → Sends a b done waiting → Sends b c waiting left → Sends a c done left
Sends-on a b c done waiting left s t = record {
  sent = s.sent ++ t.sent;
  joins = Joins-then a b c s.sent t.sent s.joins t.joins;
  whole = append_assoc s.sent t.sent left ∙ (ap (λ (xs : List ℕ). s.sent ++ xs) t.whole ∙ s.whole);
}

pub all_sent : (a b : Option (List ℕ)) (text : List ℕ) → Sends a b text [] → Joins a b text
all_sent a b text s = subst (λ (t : List ℕ). Joins a b t) (sym (append-nil s.sent) ∙ s.whole) s.joins

-- the text of all lines, of which some bytes are left
pub record Whole {A : Type 0} (Gives : A → ℕ → List ℕ → List ℕ → A → Type 0) (first : A) (told told' : Option (List ℕ)) (lines : List (List ℕ)) (left : List ℕ) : Type 0 where
  pub text : List ℕ
  pub is_text : IsTextFrom Gives first lines text
  pub sends : Sends told told' text left

pub whole_sent : {A : Type 0} (Gives : A → ℕ → List ℕ → List ℕ → A → Type 0) (first : A) (told told' : Option (List ℕ)) (lines : List (List ℕ)) → Whole Gives first told told' lines [] → WritesAll (IsTextFrom Gives first) told told' lines
whole_sent Gives first told told' lines w = record { text = w.text; is_text = w.is_text; joins = all_sent told told' w.text w.sends }

pub whole_stopped : {A : Type 0} (Gives : A → ℕ → List ℕ → List ℕ → A → Type 0) (first : A) (told told' : Option (List ℕ)) (lines : List (List ℕ)) (left : List ℕ) → Whole Gives first told told' lines left → WritesSome (IsTextFrom Gives first) told told' lines
whole_stopped Gives first told told' lines left w = record {
  written = w.sends.sent;
  joins = w.sends.joins;
  count = length lines;
  text = w.text;
  is_text = subst (λ (ps : List (List ℕ)). IsTextFrom Gives first ps w.text) (sym (take_all (length lines) lines (omega arith))) w.is_text;
  unwritten = left;
  front = w.sends.whole;
}

-- more of it was sent
pub whole_on : {A : Type 0} (Gives : A → ℕ → List ℕ → List ℕ → A → Type 0) (first : A) (told told' told'' : Option (List ℕ)) (lines : List (List ℕ)) (waiting left : List ℕ) → Whole Gives first told told' lines waiting → Sends told' told'' waiting left → Whole Gives first told told'' lines left
whole_on Gives first told told' told'' lines waiting left w sends = record { text = w.text; is_text = w.is_text; sends = Sends-on told told' told'' w.text waiting left w.sends sends }

-- the last line has had its text
pub last_put : {A : Type 0} (Gives : A → ℕ → List ℕ → List ℕ → A → Type 0) (first now after : A) (left left' told told' told'' : Option (List ℕ)) (held : Held) (waiting some text : List ℕ) (number size : ℕ)
    → (r : Rested Gives first left left' told told' held waiting number size now) → Gives now (number + 1) (without_cr r.stand.rest) text after → Sends told' told'' (waiting ++ text) some → Whole Gives first told told'' (lines_of r.stand.read) some
last_put Gives first now after left left' told told' told'' held waiting some text number size r gives sends =
    let s = r.stand in
    let k : number + 1 ≡ 1 + length (map without_cr s.lines) = omega (arith, s.counted, length-map s.lines without_cr) in
    let pushed : AreTexts Gives first 1 (map without_cr s.lines ++ without_cr s.rest ∷ []) (s.done ++ text) after = AreTexts-push Gives first now after 1 (map without_cr s.lines) (without_cr s.rest) s.done text s.texts (subst (λ (j : ℕ). Gives now j (without_cr s.rest) text after) k gives) in
    record {
      text = s.done ++ text;
      is_text = (after, subst (λ (ps : List (List ℕ)). AreTexts Gives first 1 ps (s.done ++ text) after) (sym (whole_of_cut s.read s.lines s.rest s.cut r.no_lf)) pushed);
      sends = Sends-then told told' told'' s.done text waiting some s.sends sends;
    }

-- a line that is too long, at the end of the input
pub ends_long : (held : Held) (rest : List ℕ) → StandsFor held rest → EndsLongLine held held.unread → longest_line < length (without_cr rest)
ends_long held rest (inl s) (inl skipping) = absurd (let e : true ≡ false = sym skipping ∙ s.0 in cc)
ends_long held rest (inl s) (inr long) = subst (λ (xs : List ℕ). longest_line < length (without_cr xs)) s.1 long
ends_long held rest (inr s) ends = omega (arith, without_cr-len rest, ap length s.2, length-append s.1 held.unread, s.3)

pub ends_line : (held : Held) (rest : List ℕ) → StandsFor held rest → held.skipping ≡ false → held.unread ≡ rest
ends_line held rest (inl s) whole = s.1
ends_line held rest (inr s) whole = absurd (let e : true ≡ false = sym s.0 ∙ whole in cc)
