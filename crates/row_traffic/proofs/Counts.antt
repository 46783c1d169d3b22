-- The counts of the lines that were said, row by row.
use Rattle.std.proofs.Common.{◌≡◌, ℕ, suc, ◌<◌, List, [], ◌∷◌, map, length, sym, ◌∙◌, arith}
use Rattle.std.proofs.Math.ListN.{get_or}
use Rattle.std.proofs.lemmas.List.{ext_get_or}
use Rattle.std.proofs.lemmas.List.FromFn.{get_or-map-range_with_len}
use Rattle.std.specs.List.{AllByRecursion}
use Rattle.readings.specs.Rows.{rows_count}
use Rattle.tag_block.specs.Tag.{most_count}
use Rattle.gate_model.specs.Net.{row_numbers}

pub all_counted : (f : ℕ → ℕ) (lines : List ℕ) → length lines ≡ rows_count → ((k : ℕ) → k < rows_count → get_or lines k 0 ≡ f k) → lines ≡ map f row_numbers
all_counted f lines long each =
    ext_get_or 0 lines (map f row_numbers) long
    (λ k within. let below : k < rows_count = omega (arith, long, within) in each k below ∙ sym (get_or-map-range_with_len f 0 rows_count k k 0 below (omega arith)))

pub all_small : (lines : List ℕ) → ((k : ℕ) → k < length lines → get_or lines k 0 < most_count) → AllByRecursion (λ n. n < most_count) lines
all_small [] each = tt
all_small (n ∷ lines) each = (each 0 (omega arith), all_small lines (λ k within. each (suc k) (omega (arith, within))))
