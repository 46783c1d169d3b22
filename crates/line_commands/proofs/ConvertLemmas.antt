-- The one or two sentences of a reading, behind one another.
use Rattle.std.proofs.Common.{◌≡◌, ℕ, ◌<◌, ◌≤◌, List, [], ◌∷◌, ◌++◌, length, slice_index_or, sym, ap, ◌∙◌, arith}
use Rattle.std.specs.Prelude.{map}
use Rattle.std.specs.List.{flat_map}
use Rattle.std.proofs.lemmas.List.{append-nil}
use Rattle.sentence_fields.specs.declared.lines.SentenceText.{SentenceText}

abbrev pub behind : List SentenceText → List ℕ
behind lines = flat_map (λ (line : List ℕ). line) (map (λ (t : SentenceText). t.bytes.items) lines)

pub one : (lines : List SentenceText) (a : SentenceText) → 1 ≤ length lines → length lines < 2 → a ≡ slice_index_or lines 0 a
    → a.bytes.items ≡ behind lines
one [] a there few first = absurd (omega (arith, there))
one (x ∷ []) a there few first = ap (λ (t : SentenceText). t.bytes.items) first ∙ sym (append-nil x.bytes.items)
one (x ∷ y ∷ rest) a there few first = absurd (omega (arith, few))

pub two : (lines : List SentenceText) (a b : SentenceText) → 2 ≤ length lines → length lines ≤ 2 → a ≡ slice_index_or lines 0 a → b ≡ slice_index_or lines 1 b
    → a.bytes.items ++ (b.bytes.items ++ []) ≡ behind lines
two [] a b there few first second = absurd (omega (arith, there))
two (x ∷ []) a b there few first second = absurd (omega (arith, there))
two (x ∷ y ∷ []) a b there few first second =
    ap (λ (t : SentenceText). t.bytes.items ++ (b.bytes.items ++ [])) first ∙ ap (λ (t : SentenceText). x.bytes.items ++ (t.bytes.items ++ [])) second
two (x ∷ y ∷ z ∷ rest) a b there few first second = absurd (omega (arith, few))
