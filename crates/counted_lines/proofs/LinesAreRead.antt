-- The datagram of sentences is read as these sentences.
use Rattle.std.proofs.Common.{◌≡◌, ℕ, ◌+◌, ◌≤◌, Bool, true, false, List, [], ◌∷◌, ◌++◌, length, refl, ap, subst, ◌∙◌}
use Rattle.std.specs.List.{AllByRecursion}
use Rattle.std.proofs.lemmas.List.Concat.{flat_map-cons}
use Rattle.sentence_profile.specs.Laws.{IsOneSentence}
use Rattle.sentence_text.specs.Names.{IsSfi}
use Rattle.datagram450.specs.Datagram.{all_of, header}
use Rattle.history.specs.EntryLaws.{nets_in}
use Rattle.plain_out.specs.Laws.{Says}
use Rattle.parts.specs.Voices.{EachSays}
use Rattle.parts.proofs.Lines.{lines_alone, says_each}
use Rattle.counted_lines.specs.CountedLines.{line_of, lines_from, only_where, posted_of, spoken_of}

as_lines : (source : List ℕ) (before : ℕ) (texts : List (List ℕ)) → all_of (lines_alone source before texts) ≡ lines_from source before texts
as_lines source before [] = refl
as_lines source before (t ∷ texts) =
    flat_map-cons (λ (l : List ℕ). l) (line_of source before t) (lines_alone source (before + 1) texts)
    ∙ ap (λ rest. line_of source before t ++ rest) (as_lines source (before + 1) texts)

pub posted_says : (group source : List ℕ) (before : ℕ) (texts : List (List ℕ)) → IsSfi source → length texts ≤ 9 → AllByRecursion IsOneSentence texts
    → EachSays (nets_in (posted_of group source before texts)) (spoken_of texts)
posted_says group source before [] sfi few all = tt
posted_says group source before (t ∷ texts) sfi few all =
    (subst (λ lines. Says (header ++ lines) (t ∷ texts)) (as_lines source before (t ∷ texts)) (says_each source before (t ∷ texts) sfi few all), tt)

-- one that is said where it is to be, before others
pub only_sentences : (said : Bool) (text : List ℕ) (more : List (List ℕ)) → IsOneSentence text → AllByRecursion IsOneSentence more
    → AllByRecursion IsOneSentence (only_where said text ++ more)
only_sentences true text more is all = (is, all)
only_sentences false text more is all = all
