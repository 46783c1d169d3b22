-- What was noted of the sources of a subject, and whose message is selected.
use Rattle.std.specs.Prelude.{ℕ, ◌+◌, ◌*◌, ◌<◌, ◌≤◌, Bool, ◌&&◌, not, ◌==◌, nat_lt, nat_le, List, [], ◌∷◌, filter, find, Option, if◌then◌else◌}
use Rattle.std.specs.List.{list_any}
use Rattle.source_choice.specs.declared.rank.Rank.{Rank}
use Rattle.source_choice.specs.declared.note.Note.{Note}
use Rattle.source_choice.specs.Ranks.{is_before}

-- the notes of a subject, the least source first
pub record SubjectNotes : Type 0 where
  pub sources : ℕ
  -- in milliseconds
  pub timeout : ℕ
  pub notes : List Note

-- the sources increase from low on, and stay below top
abbrev pub AreFrom : ℕ → ℕ → List Note → Type 0
AreFrom low top [] = Unit {0}
AreFrom low top (n ∷ ns) = (low ≤ n.source) × (n.source < top) × AreFrom (n.source + 1) top ns

-- a note is fresh where it is usable and at most the timeout older than the moment
abbrev pub is_fresh : ℕ → ℕ → Note → Bool
is_fresh timeout m n = n.usable && nat_le m (n.moment + 1000 * timeout)

-- it keeps back another source of this rank
abbrev pub outranks : ℕ → ℕ → Rank → ℕ → Note → Bool
outranks timeout source rank m n = not (n.source == source) && is_before n.rank rank && is_fresh timeout m n

abbrev pub is_selected : SubjectNotes → ℕ → Rank → ℕ → Bool
is_selected r source rank m = not (list_any (outranks r.timeout source rank m) r.notes)

-- ---- the notes as a map from source to note

abbrev pub is_of : ℕ → Note → Bool
is_of source n = n.source == source

abbrev pub note_of : ℕ → List Note → Option Note
note_of source notes = find (is_of source) notes

-- with this note in the place of what was noted of its source
abbrev pub with_note : Note → List Note → List Note
with_note x [] = x ∷ []
with_note x (n ∷ ns) = if nat_lt x.source n.source then x ∷ n ∷ ns else if n.source == x.source then x ∷ ns else n ∷ with_note x ns

abbrev pub without : ℕ → List Note → List Note
without source notes = filter (λ n. not (n.source == source)) notes
