-- Each subject has room for the notes of all sources.
use Rattle.std.proofs.Common.{◌≡◌, ℕ, zero, suc, ◌<◌, List, [], ◌∷◌, length, get_or, set, map, take, drop, ◌+◌, ◌++◌, refl, arith}
use Rattle.std.specs.List.{AllByRecursion}
use Rattle.std.proofs.lemmas.List.Edits.{map_over_more}
use Rattle.source_choice.specs.Notes.{SubjectNotes}
use Rattle.source_choice.specs.Choices.{forgotten_in, nothing}

abbrev pub AreOf : ℕ → List SubjectNotes → Type 0
AreOf sources subjects = AllByRecursion (λ r. r.sources ≡ sources) subjects

pub all_opened : (sources : ℕ) (timeouts : List ℕ) → AreOf sources (map (nothing sources) timeouts)
all_opened sources [] = tt
all_opened sources (t ∷ ts) = (refl, all_opened sources ts)

pub sources_at : (sources : ℕ) (subjects : List SubjectNotes) (i : ℕ) (d : SubjectNotes) → AreOf sources subjects → i < length subjects → (get_or subjects i d).sources ≡ sources
sources_at sources [] i d all l = absurd (omega (arith, l))
sources_at sources (r ∷ subjects) zero d all l = all.0
sources_at sources (r ∷ subjects) (suc i) d all l = sources_at sources subjects i d all.1 (omega (arith, l))

pub all_noted : (sources : ℕ) (subjects : List SubjectNotes) (i : ℕ) (r : SubjectNotes) → r.sources ≡ sources → AreOf sources subjects → AreOf sources (set subjects i r)
all_noted sources [] i r e all = tt
all_noted sources (x ∷ subjects) zero r e all = (e, all.1)
all_noted sources (x ∷ subjects) (suc i) r e all = (all.0, all_noted sources subjects i r e all.1)

pub all_forgotten : (sources source : ℕ) (subjects : List SubjectNotes) → AreOf sources subjects → AreOf sources (map (forgotten_in source) subjects)
all_forgotten sources source [] all = tt
all_forgotten sources source (r ∷ subjects) all = (all.0, all_forgotten sources source subjects all.1)

-- one more subject
pub forgotten_more : (source : ℕ) (subjects now : List SubjectNotes) (i : ℕ) (r : SubjectNotes) → i < length subjects → now ≡ map (forgotten_in source) (take i subjects) ++ drop i subjects → r ≡ get_or now i r
    → set now i (forgotten_in source r) ≡ map (forgotten_in source) (take (i + 1) subjects) ++ drop (i + 1) subjects
forgotten_more source subjects now i r l e f = map_over_more (forgotten_in source) subjects now i r l e f
