-- How long a row of the gateway counts is what is configured of it.
use Rattle.std.proofs.Common.{◌≡◌, ℕ, zero, suc, ◌<◌, List, [], ◌∷◌, length, map, refl, arith}
use Rattle.std.specs.Prelude.{slice_index_or}
use Rattle.n2k_id.specs.declared.pattern.Pattern.{Pattern}
use Rattle.history.specs.Settings.{rule_at}
use Rattle.config_values.specs.Settings.{rule_of_row}
use Rattle.config_values.specs.declared.row_config.RowConfig.{RowConfig}

pub row_timeout : (ignored : List Pattern) (rows : List RowConfig) (n : ℕ) (d : RowConfig) → n < length rows
    → (rule_at (map (rule_of_row ignored) rows) n).timeout ≡ (slice_index_or rows n d).timeout_ms
row_timeout ignored [] n d within = absurd (omega (arith, within))
row_timeout ignored (row ∷ rows) zero d within = refl
row_timeout ignored (row ∷ rows) (suc n) d within = row_timeout ignored rows n d (omega (arith, within))
