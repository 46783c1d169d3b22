-- The counts that are kept are those of all that was said, and number the lines of a datagram as these do.
use Rattle.std.proofs.Common.{◌≡◌, ℕ, ◌+◌, ◌%◌, Bool, true, false, List, [], ◌∷◌, ◌++◌, map, length, get_or, refl, ap, ◌∙◌, arith}
use Rattle.std.specs.Prelude.{nat_le, if◌then◌else◌}
use Rattle.std.proofs.Math.Nat.{mod-add-mod, mod-mod}
use Rattle.readings.specs.declared.reading.Reading.{Reading}
use Rattle.readings.specs.declared.rows.Row.{Row}
use Rattle.readings.specs.declared.rows.Row.TheVariants as row
use Rattle.readings.specs.Rows.{row_of, row_number}
use Rattle.tag_block.specs.Tag.{most_count}
use Rattle.tag_block.specs.Writing.{most_written_code}
use Rattle.datagram450.specs.Datagram.{header, line_text}
use Rattle.history.specs.Settings.{Settings, rule_of, same_text}
use Rattle.history.specs.Emits.{Spoken, lines_on, line_groups, part_of, lines_from}
use Rattle.gate_model.specs.Net.{row_numbers}
use Rattle.gate_model.specs.Said.{SaidKept, sentences_by, lines_at, lines_more, groups_more, counted}
use Rattle.gate_model.specs.SaidLaws.{DatagramsAreOfAll}

-- what is kept of each number of a row is found by the row
pub by_row : (f : ℕ → ℕ) (r : Row) → get_or (map f row_numbers) (row_number r) 0 ≡ f (row_number r)
by_row f row.HeadingTrue = refl
by_row f _ = refl

-- ---- the counts after a datagram

abbrev spoken_by : Settings → Reading → Spoken
spoken_by c r = record { group = (rule_of c (row_of r)).group; lines = length (sentences_by c r) }

pub lines_counted : (c : Settings) (k : SaidKept) (spoken : List Spoken) (r : Reading) (one : Row)
    → lines_at k one ≡ lines_on (rule_of c one).group spoken % most_count
    → lines_at (counted c k r) one ≡ lines_on (rule_of c one).group (spoken_by c r ∷ spoken) % most_count
lines_counted c k spoken r one e =
    by_row (lines_more c k (rule_of c (row_of r)).group (length (sentences_by c r))) one ∙ by (same_text (rule_of c (row_of r)).group (rule_of c one).group)
  where
    by : (b : Bool) → (if b then (lines_at k one + length (sentences_by c r)) % most_count else lines_at k one)
        ≡ (if b then lines_on (rule_of c one).group spoken + length (sentences_by c r) else lines_on (rule_of c one).group spoken) % most_count
    by true = ap (λ (n : ℕ). (n + length (sentences_by c r)) % most_count) e ∙ mod-add-mod (lines_on (rule_of c one).group spoken) most_count (length (sentences_by c r))
    by false = e

pub groups_counted : (c : Settings) (k : SaidKept) (spoken : List Spoken) (r : Reading) → k.groups ≡ line_groups spoken % most_written_code
    → groups_more k (length (sentences_by c r)) ≡ line_groups (spoken_by c r ∷ spoken) % most_written_code
groups_counted c k spoken r e = by (nat_le 2 (length (sentences_by c r)))
  where
    by : (b : Bool) → (if b then (k.groups + 1) % most_written_code else k.groups) ≡ (if b then line_groups spoken + 1 else line_groups spoken) % most_written_code
    by true = ap (λ (n : ℕ). (n + 1) % most_written_code) e ∙ mod-add-mod (line_groups spoken) most_written_code 1
    by false = e

-- ---- the lines of a datagram

next_line : (a b : ℕ) → a % most_count ≡ b % most_count → (a + 1) % most_count ≡ (b + 1) % most_count
next_line a b e = omega (arith, e)

same_lines : (sfi : List ℕ) (total code a b number : ℕ) (xs : List (List ℕ)) → a % most_count ≡ b % most_count
    → lines_from sfi total code a number xs ≡ lines_from sfi total code b number xs
same_lines sfi total code a b number [] e = refl
same_lines sfi total code a b number (x ∷ xs) e =
    ap (λ (n : ℕ). line_text (record { group = part_of total code number; source = sfi; count = n + 1 }) x ++ lines_from sfi total code (a + 1)
    (number + 1) xs) e
    ∙ ap (λ (rest : List ℕ). line_text (record { group = part_of total code number; source = sfi; count = b % most_count + 1 }) x ++ rest)
    (same_lines sfi total code (a + 1) (b + 1) (number + 1) xs (next_line a b e))

pub datagrams_are_of_all : DatagramsAreOfAll
datagrams_are_of_all c holders older spoken k r st =
    let sentences = sentences_by c r in
    let group = (rule_of c (row_of r)).group in
    ap (λ (code : ℕ). header ++ lines_from c.sfi (length sentences) (code + 1) (lines_at k (row_of r)) 1 sentences) st.groups
    ∙ ap (λ (lines : List ℕ). header ++ lines)
    (same_lines c.sfi (length sentences) (line_groups spoken % most_written_code + 1) (lines_at k (row_of r)) (lines_on group spoken) 1 sentences
    (ap (λ (n : ℕ). n % most_count) (st.lines (row_of r)) ∙ mod-mod (lines_on group spoken) most_count))
