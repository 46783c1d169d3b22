-- A datagram (IEC 61162-450) of lines that belong to no group: each has a TAG block with the source and the line's count, and a sentence.
use Rattle.std.specs.Prelude.{ℕ, ◌+◌, ◌%◌, Bool, List, [], ◌∷◌, ◌++◌, None, if◌then◌else◌}
use Rattle.gate_events.specs.Emit.{Emit, net}
use Rattle.tag_block.specs.Tag.{most_count}
use Rattle.datagram450.specs.Datagram.{header, line_text}
use Rattle.parts.specs.Voices.{Spoken}

-- before which so many lines were said
abbrev pub line_of : List ℕ → ℕ → List ℕ → List ℕ
line_of source before text = line_text (record { group = None; source = source; count = before % most_count + 1 }) text

abbrev pub lines_from : List ℕ → ℕ → List (List ℕ) → List ℕ
lines_from source before [] = []
lines_from source before (text ∷ texts) = line_of source before text ++ lines_from source (before + 1) texts

abbrev pub lines_datagram : List ℕ → ℕ → List (List ℕ) → List ℕ
lines_datagram source before texts = header ++ lines_from source before texts

-- a sentence, where it is to be said
abbrev pub only_where : Bool → List ℕ → List (List ℕ)
only_where said text = if said then text ∷ [] else []

-- ---- what is emitted to a transmission group, and said there: no datagram of no sentences

abbrev pub posted_of : List ℕ → List ℕ → ℕ → List (List ℕ) → List Emit
posted_of group source before [] = []
posted_of group source before (text ∷ texts) = net group (lines_datagram source before (text ∷ texts)) ∷ []

abbrev pub spoken_of : List (List ℕ) → Spoken
spoken_of [] = []
spoken_of (text ∷ texts) = (text ∷ texts) ∷ []
