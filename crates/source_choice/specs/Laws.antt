-- What is promised of the notes of a subject.
use Rattle.std.specs.Prelude.{◌≡◌, ◌≢◌, ℕ, List, Some, None}
use Rattle.source_choice.specs.declared.note.Note.{Note}
use Rattle.source_choice.specs.Notes.{note_of, with_note, without}

-- a note that is put in is the one of its source
abbrev pub NotedIsFound : Type 0
NotedIsFound = (x : Note) (ns : List Note) → note_of x.source (with_note x ns) ≡ Some x

-- and changes none of others
abbrev pub OthersStayNoted : Type 0
OthersStayNoted = (x : Note) (ns : List Note) (other : ℕ) → other ≢ x.source → note_of other (with_note x ns) ≡ note_of other ns

abbrev pub ForgottenIsGone : Type 0
ForgottenIsGone = (source : ℕ) (ns : List Note) → note_of source (without source ns) ≡ None

abbrev pub OthersAreKept : Type 0
OthersAreKept = (source : ℕ) (ns : List Note) (other : ℕ) → other ≢ source → note_of other (without source ns) ≡ note_of other ns
