-- What a reader of lines holds, and what its calls do to it.
use Rattle.std.specs.Prelude.{◌≡◌, ◌+◌, ◌<◌, ◌≤◌, ◌⊎◌, ℕ, Bool, true, false, List, [], ◌∷◌, ◌++◌, length, slice_index, take, All, Option, Some, Result, Ok, Err}
use Rattle.gate_outside.specs.Told.{Leaves}
use Rattle.capture_stream.specs.declared.line_reader.Next.{Next}
use Rattle.capture_stream.specs.declared.line_reader.Next.TheVariants.{Line, Long, Unfinished, Usual}
use Rattle.capture_text.specs.Capture.{longest_line}
use Rattle.capture_text.specs.Lines.{is_lf, without_cr}
use Rattle.capture_text.specs.Reading.{read}
use Rattle.capture_text.specs.Usual.{has_no_controls}
use Rattle.gate_events.specs.Event.{frame}
use Rattle.n2k_id.specs.Frame.{IsFrame, bus_frame}
use Rattle.n2k_id.specs.declared.frame.Frame.{Frame}

-- how many bytes a reader holds at most
abbrev pub buffer_size : ℕ
buffer_size = 65536

-- how many bytes of a line are kept while its end hasn't come: those of the longest line, and a CR
abbrev pub most_unread : ℕ
most_unread = longest_line + 1

pub record Held : Type 0 where
  -- the line that was taken last
  pub line : List ℕ
  -- the bytes behind it
  pub unread : List ℕ
  -- whether more bytes of the line than any line may have were passed over before these
  pub skipping : Bool

abbrev pub HasNoLf : List ℕ → Type 0
HasNoLf bytes = All (λ b. is_lf b ≡ false) bytes

-- The unread bytes begin with these and an LF, which are taken.
pub record Takes (old new : Held) (raw : List ℕ) : Type 0 where
  pub whole : old.unread ≡ raw ++ 10 ∷ new.unread
  pub no_lf : HasNoLf raw
  pub starts : new.skipping ≡ false

-- These bytes are a line, which is kept.
pub record IsLine (old new : Held) (raw : List ℕ) : Type 0 where
  pub whole : old.skipping ≡ false
  pub line : new.line ≡ without_cr raw
  pub fits : length new.line ≤ longest_line

-- These bytes end a line that is too long.
abbrev pub EndsLongLine : Held → List ℕ → Type 0
EndsLongLine old raw = (old.skipping ≡ true) ⊎ (longest_line < length (without_cr raw))

-- No LF has come yet. Of a line that is too long already nothing is kept.
pub record Waits (old new : Held) : Type 0 where
  pub no_lf : HasNoLf old.unread
  pub room : length new.unread ≤ most_unread
  pub keeps : ((new.unread ≡ old.unread) × (new.skipping ≡ old.skipping)) ⊎ ((new.unread ≡ []) × (new.skipping ≡ true) × (most_unread < length old.unread))

-- a line that reads as a frame at a moment
pub record IsUsual (moment : ℕ) (f : Frame) (line : List ℕ) : Type 0 where
  pub reads : read line ≡ Ok (frame moment (bus_frame f))
  pub valid : IsFrame f
  pub some : 0 < length line

-- where its LF stands
abbrev pub usual_end : ℕ
usual_end = 50

-- the unread bytes begin with such a line of fifty bytes and its LF, and no line has begun before
pub record BeginsUsual (held : Held) (moment : ℕ) (f : Frame) : Type 0 where
  pub whole : held.skipping ≡ false
  pub within : usual_end < length held.unread
  pub lf : slice_index held.unread usual_end ≡ 10
  pub no_controls : has_no_controls (take usual_end held.unread) ≡ true
  pub is_usual : IsUsual moment f (take usual_end held.unread)

-- what is said of a line that was taken is so
abbrev pub IsNextRead : Next → List ℕ → Type 0
IsNextRead (Usual moment f) line = IsUsual moment f line
IsNextRead Line line = Unit {0}
IsNextRead Long line = Unit {0}
IsNextRead Unfinished line = Unit {0}

-- what the next line is
abbrev pub Advances : Held → Held → Next → Type 0
Advances old new (Usual moment f) = ((raw : List ℕ) × Takes old new raw × IsLine old new raw) × IsUsual moment f new.line
Advances old new Line = (raw : List ℕ) × Takes old new raw × IsLine old new raw
Advances old new Long = (raw : List ℕ) × Takes old new raw × EndsLongLine old raw
Advances old new Unfinished = Waits old new

-- what the last line is
abbrev pub Finishes : Held → Held → Next → Type 0
Finishes old new (Usual moment f) = ⊥
Finishes old new Line = IsLine old new old.unread
Finishes old new Long = EndsLongLine old old.unread
Finishes old new Unfinished = ⊥

-- Where what is left is told, it is nothing.
abbrev pub IsEnd : Option (List ℕ) → Type 0
IsEnd left = (bytes : List ℕ) → left ≡ Some bytes → bytes ≡ []

-- These bytes left the source, and none only at its end.
pub record Came (left left' : Option (List ℕ)) (count : ℕ) (piece : List ℕ) : Type 0 where
  pub leaves : Leaves left left' piece
  pub counted : count ≡ length piece
  pub end : count ≡ 0 → IsEnd left

-- what a read behind so many kept bytes of a buffer does
abbrev pub ReadsBehind : {E : Type 0} → Option (List ℕ) → Option (List ℕ) → List ℕ → List ℕ → ℕ → Result ℕ E → Type 0
ReadsBehind left left' kept buffer count (Ok read) = (piece : List ℕ) × Came left left' read piece
    × (take (count + read) buffer ≡ kept ++ piece) × (count + read ≤ length buffer)
ReadsBehind left left' kept buffer count (Err e) = Leaves left left' []

-- what a read does: the bytes that came stand behind the unread ones
abbrev pub Fills : {E : Type 0} → Option (List ℕ) → Option (List ℕ) → Held → Held → Result ℕ E → Type 0
Fills left left' old new (Ok count) = (piece : List ℕ) × Came left left' count piece × (new.unread ≡ old.unread ++ piece) × (new.skipping ≡ old.skipping)
Fills left left' old new (Err e) = Leaves left left' []
