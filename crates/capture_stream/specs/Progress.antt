-- How far a command that writes a text for each line of its input has come, and how it ends.
use Rattle.std.specs.Prelude.{◌≡◌, ◌+◌, ◌<◌, ◌≤◌, ◌⊎◌, ◌^◌, ℕ, true, false, List, [], ◌∷◌, ◌++◌, length, map, take, Option, Some, Result, Ok, Err}
use Rattle.std.specs.List.{flat_map, AllByRecursion}
use Rattle.gate_outside.specs.Told.{Leaves, Joins}
use Rattle.gate_outside.specs.declared.Failed.{Failed}
use Rattle.capture_stream.specs.declared.ending.Ending.{Ending}
use Rattle.capture_stream.specs.declared.ending.Ending.TheVariants as ending
use Rattle.capture_text.specs.Lines.{without_cr, lines_of, complete_lines}
use Rattle.capture_stream.specs.Lines.{AreTexts, IsTextFrom}
use Rattle.capture_stream.specs.LineReader.{most_unread, Held, HasNoLf}
use Rattle.capture_stream.specs.Writer.{Sends}

abbrev pub with_lf : List ℕ → List ℕ
with_lf line = line ++ 10 ∷ []

-- The bytes are these lines, each with its LF, and a rest.
pub record Cut (bytes : List ℕ) (lines : List (List ℕ)) (rest : List ℕ) : Type 0 where
  pub whole : bytes ≡ flat_map with_lf lines ++ rest
  pub no_lf : AllByRecursion HasNoLf lines

-- What the reader holds stands for this rest: it is the rest, or what comes in it behind bytes of a line that is too long.
abbrev pub StandsFor : Held → List ℕ → Type 0
StandsFor held rest = ((held.skipping ≡ false) × (held.unread ≡ rest))
    ⊎ ((held.skipping ≡ true) × (passed : List ℕ) × (rest ≡ passed ++ held.unread) × (most_unread < length passed) × HasNoLf passed)

-- Where a command stands: of the bytes that left the source so far, so many, each whole line has had its text, which was sent or waits,
-- and this is kept.
pub record Stand {A : Type 0} (Gives : A → ℕ → List ℕ → List ℕ → A → Type 0) (first : A) (left left' told told' : Option (List ℕ))
    (held : Held) (waiting : List ℕ) (number size : ℕ) (now : A) : Type 0 where
  pub read : List ℕ
  pub lines : List (List ℕ)
  pub rest : List ℕ
  pub leaves : Leaves left left' read
  pub sized : size ≡ length read
  pub cut : Cut read lines rest
  pub holds : StandsFor held rest
  pub counted : number ≡ length lines
  pub done : List ℕ
  pub texts : AreTexts Gives first 1 (map without_cr lines) done now
  pub sends : Sends told told' done waiting

-- The same, where no whole line is left.
pub record Rested {A : Type 0} (Gives : A → ℕ → List ℕ → List ℕ → A → Type 0) (first : A) (left left' told told' : Option (List ℕ))
    (held : Held) (waiting : List ℕ) (number size : ℕ) (now : A) : Type 0 where
  pub stand : Stand Gives first left left' told told' held waiting number size now
  pub no_lf : HasNoLf stand.rest
  pub room : length held.unread ≤ most_unread

-- how many bytes an input may have
abbrev pub input_limit : ℕ
input_limit = 2 ^ 40

-- Where the source tells its bytes, these are all of them.
abbrev pub AreAll : Option (List ℕ) → List ℕ → Type 0
AreAll left read = (bytes : List ℕ) → left ≡ Some bytes → read ≡ bytes

-- the text of these lines was written
pub record WritesAll (IsText : List (List ℕ) → List ℕ → Type 0) (told told' : Option (List ℕ)) (lines : List (List ℕ)) : Type 0 where
  pub text : List ℕ
  pub is_text : IsText lines text
  pub joins : Joins told told' text

-- What was written is a front of the text of the first of these lines.
pub record WritesSome (IsText : List (List ℕ) → List ℕ → Type 0) (told told' : Option (List ℕ)) (lines : List (List ℕ)) : Type 0 where
  pub written : List ℕ
  pub joins : Joins told told' written
  pub count : ℕ
  pub text : List ℕ
  pub is_text : IsText (take count lines) text
  pub unwritten : List ℕ
  pub front : written ++ unwritten ≡ text

-- All of the input was read, and its text was written.
pub record Finishes (IsText : List (List ℕ) → List ℕ → Type 0) (left left' told told' : Option (List ℕ)) : Type 0 where
  pub read : List ℕ
  pub leaves : Leaves left left' read
  pub all : AreAll left read
  pub within : length read ≤ input_limit
  pub writes : WritesAll IsText told told' (lines_of read)

-- A read failed, and the text of the complete lines before it was written.
pub record StopsReading (IsText : List (List ℕ) → List ℕ → Type 0) (left left' told told' : Option (List ℕ)) : Type 0 where
  pub read : List ℕ
  pub leaves : Leaves left left' read
  pub within : length read ≤ input_limit
  pub writes : WritesAll IsText told told' (complete_lines read)

-- A write failed, and some of the text of the complete lines was written. At the end of the input all lines are complete.
pub record StopsWriting (IsText : List (List ℕ) → List ℕ → Type 0) (left left' told told' : Option (List ℕ)) : Type 0 where
  pub read : List ℕ
  pub leaves : Leaves left left' read
  pub within : length read ≤ input_limit
  pub writes : WritesSome IsText told told' (complete_lines read) ⊎ (AreAll left read × WritesSome IsText told told' (lines_of read))

-- One byte more was read than an input may have, and some of the text of the complete lines was written.
pub record PassesLimit (IsText : List (List ℕ) → List ℕ → Type 0) (left left' told told' : Option (List ℕ)) : Type 0 where
  pub read : List ℕ
  pub leaves : Leaves left left' read
  pub beyond : length read ≡ input_limit + 1
  pub writes : WritesSome IsText told told' (complete_lines read)

-- how a command over lines ends, by what the text of lines is
abbrev pub Ends : (List (List ℕ) → List ℕ → Type 0) → Option (List ℕ) → Option (List ℕ) → Option (List ℕ) → Option (List ℕ) → Ending → Type 0
Ends IsText left left' told told' ending.Done = Finishes IsText left left' told told'
Ends IsText left left' told told' ending.SinkFailed = StopsWriting IsText left left' told told'
Ends IsText left left' told told' ending.SourceFailed = StopsReading IsText left left' told told'
Ends IsText left left' told told' ending.TooLong = PassesLimit IsText left left' told told'

-- The first call that fails decides how a command ends: by the counts of faults of the source and of the sink, a call failed only of the
-- kind that the ending names.
abbrev pub Steady : ℕ → ℕ → ℕ → ℕ → Ending → Type 0
Steady source source' sink sink' ending.Done = (source' ≡ source) × (sink' ≡ sink)
Steady source source' sink sink' ending.SinkFailed = source' ≡ source
Steady source source' sink sink' ending.SourceFailed = sink' ≡ sink
Steady source source' sink sink' ending.TooLong = (source' ≡ source) × (sink' ≡ sink)

-- Wherever the command stood, it stands here now: the same bytes were read, and more lines have had their text.
abbrev pub Reaches : {A : Type 0} → (A → ℕ → List ℕ → List ℕ → A → Type 0) → Option (List ℕ) → Option (List ℕ) → Held → Held → List ℕ → List ℕ → ℕ → ℕ → A → A → Type 0
Reaches {A = A} Gives told' told'' old new waiting waiting' number count before after =
    (first : A) (left left' told : Option (List ℕ)) (size : ℕ) → (s : Stand Gives first left left' told told' old waiting number size before)
    → (t : Stand Gives first left left' told told'' new waiting' count size after) × (t.read ≡ s.read)

-- Whatever was done before, all whole lines have their text afterwards, or some of the text was written.
abbrev pub TakesLines : {A : Type 0} → (A → ℕ → List ℕ → List ℕ → A → Type 0) → Option (List ℕ) → Option (List ℕ) → Held → Held → List ℕ → List ℕ → ℕ → A → A → Result ℕ Failed → Type 0
TakesLines {A = A} Gives told' told'' old new waiting waiting' number before after (Ok count) =
    (first : A) (left left' told : Option (List ℕ)) (size : ℕ) → Stand Gives first left left' told told' old waiting number size before
    → Rested Gives first left left' told told'' new waiting' count size after
TakesLines {A = A} Gives told' told'' old new waiting waiting' number before after (Err e) =
    (first : A) (left left' told : Option (List ℕ)) (size : ℕ) → (s : Stand Gives first left left' told told' old waiting number size before)
    → WritesSome (IsTextFrom Gives first) told told'' (complete_lines s.read)

-- At the end of the input what is left is the last line: its text is written too, or some of the text was.
abbrev pub TakesLast : {A : Type 0} → (A → ℕ → List ℕ → List ℕ → A → Type 0) → Option (List ℕ) → Option (List ℕ) → Held → List ℕ → ℕ → A → Result (Unit {0}) Failed → Type 0
TakesLast {A = A} Gives told' told'' old waiting number before (Ok done) =
    (first : A) (left left' told : Option (List ℕ)) (size : ℕ) → (r : Rested Gives first left left' told told' old waiting number size before)
    → WritesAll (IsTextFrom Gives first) told told'' (lines_of r.stand.read)
TakesLast {A = A} Gives told' told'' old waiting number before (Err e) =
    (first : A) (left left' told : Option (List ℕ)) (size : ℕ) → (r : Rested Gives first left left' told told' old waiting number size before)
    → WritesSome (IsTextFrom Gives first) told told'' (lines_of r.stand.read)
