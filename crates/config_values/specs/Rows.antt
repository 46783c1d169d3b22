-- Whom a row is taken from (devices of ISO 11783-5), and how it is said (talkers of IEC 61162-1), as it can be configured.
use Rattle.std.specs.Prelude.{◌≡◌, ◌≢◌, ℕ, List, length, All, IsTrue}
use Rattle.std.specs.Int.{IsInRange}
use Rattle.std.specs.List.{AllPairs}
use Rattle.sentence_text.specs.Byte.{is_capital}
use Rattle.n2k_id.specs.declared.pattern.Pattern.{Pattern}
use Rattle.config_values.specs.declared.row_config.RowConfig.{RowConfig}
use Rattle.config_values.specs.Patterns.{IsPattern}

-- how long a source counts where no other time is configured, in milliseconds
abbrev pub usual_timeout : ℕ
usual_timeout = 5000

-- two capital letters
pub record IsTalker (talker : List ℕ) : Type 0 where
  pub len : length talker ≡ 2
  pub letters : All (λ letter. IsTrue (is_capital letter)) talker

-- the devices that a row is taken from: no pattern stands twice
pub record AreSources (patterns : List Pattern) : Type 0 where
  pub each : All IsPattern patterns
  pub apart : AllPairs (λ p q. p ≢ q) patterns

pub record IsRow (row : RowConfig) : Type 0 where
  pub sources : AreSources row.sources.items
  pub timeout : IsInRange 100 60000 row.timeout_ms
  pub talker : IsTalker row.talker
