-- What was noted of all subjects.
use Rattle.std.specs.Prelude.{◌≡◌, ◌≢◌, ℕ, ◌+◌, ◌*◌, ◌≤◌, Bool, IsTrue, List, [], map, slice_index_or, slice_set, Some}
use Rattle.source_choice.specs.declared.rank.Rank.{Rank}
use Rattle.source_choice.specs.declared.note.Note.{Note}
use Rattle.source_choice.specs.declared.told.Told.{Told}
use Rattle.source_choice.specs.Ranks.{IsBefore}
use Rattle.source_choice.specs.Notes.{SubjectNotes, is_selected, note_of, with_note, without}

-- the notes of each subject, by its number
pub record Choices : Type 0 where
  pub sources : ℕ
  pub subjects : List SubjectNotes

-- with nothing noted yet
abbrev pub nothing : ℕ → ℕ → SubjectNotes
nothing sources timeout = record { sources = sources; timeout = timeout; notes = [] }

abbrev pub opened : ℕ → List ℕ → Choices
opened sources timeouts = record { sources = sources; subjects = map (nothing sources) timeouts }

abbrev pub subject_at : Choices → ℕ → SubjectNotes
subject_at c number = slice_index_or c.subjects number (nothing 0 0)

abbrev pub noted : SubjectNotes → Note → SubjectNotes
noted s x = record s { notes = with_note x s.notes }

abbrev pub with_noted : Choices → ℕ → Note → Choices
with_noted c number x = record c { subjects = slice_set c.subjects number (noted (subject_at c number) x) }

-- what a source of this rank tells at a moment is noted; and it is selected where no other source of a smaller rank is fresh then
abbrev pub with_told : Choices → ℕ → Rank → ℕ → Told → Choices
with_told c source rank moment told = with_noted c told.subject (record { source = source; rank = rank; moment = moment; usable = told.usable })

abbrev pub is_chosen : Choices → ℕ → Rank → ℕ → Told → Bool
is_chosen c source rank moment told = is_selected (subject_at c told.subject) source rank moment

abbrev pub forgotten_in : ℕ → SubjectNotes → SubjectNotes
forgotten_in source s = record s { notes = without source s.notes }

abbrev pub forgotten : Choices → ℕ → Choices
forgotten c source = record c { subjects = map (forgotten_in source) c.subjects }

-- usable, and at most the timeout older than the moment
abbrev pub IsFresh : ℕ → ℕ → Note → Type 0
IsFresh timeout m n = IsTrue n.usable × (m ≤ n.moment + 1000 * timeout)

-- no other noted source of a smaller rank is fresh
abbrev pub IsFirst : SubjectNotes → ℕ → Rank → ℕ → Type 0
IsFirst s source rank m = (other : ℕ) (n : Note) → note_of other s.notes ≡ Some n → other ≢ source → IsBefore n.rank rank → ¬ IsFresh s.timeout m n
