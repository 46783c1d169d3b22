-- When settings are valid: the gateway, what it says of itself, RMC and reports of ships. Joined sentences (RMC, IEC 61162-1) and reports of ships
-- around each have a transmission group (IEC 61162-450) of their own. The conditions stand in the order of the keys.
use Rattle.std.specs.Prelude.{◌≢◌, ℕ, ◌≤◌, List, length, All, Option}
use Rattle.std.specs.Int.{IsInRange}
use Rattle.std.specs.Option.{ForSome}
use Rattle.bus_identity.specs.declared.product.Product.{Product}
use Rattle.config_values.specs.Configs.{IsConfig}
use Rattle.config_values.specs.Rows.{IsTalker}
use Rattle.config_values.specs.declared.row_config.RowConfig.{RowConfig}
use Rattle.settings.specs.declared.ais.AisConfig.{AisConfig}
use Rattle.settings.specs.declared.rmc.RmcConfig.{RmcConfig}
use Rattle.settings.specs.declared.settings.Settings.{Settings}

-- characters of ASCII from space to tilde, no more than the field of product information has
pub record IsText (text : List ℕ) : Type 0 where
  pub fits : length text ≤ 32
  pub printable : All (IsInRange 32 126) text

-- a load above 252 stands for none that is told
pub record IsProduct (p : Product) : Type 0 where
  pub model : IsText p.model.items
  pub software : IsText p.software.items
  pub version : IsText p.version.items
  pub serial : IsText p.serial.items
  pub load : p.load ≤ 252

-- a group of its own, to which no row is sent
abbrev pub IsOwnGroup : List RowConfig → List ℕ → Type 0
IsOwnGroup rows group = All (λ row. row.group ≢ group) rows

pub record IsRmc (rows : List RowConfig) (r : RmcConfig) : Type 0 where
  pub group : IsOwnGroup rows r.group
  pub talker : IsTalker r.talker

pub record IsAis (rows : List RowConfig) (rmc : Option RmcConfig) (a : AisConfig) : Type 0 where
  pub group : IsOwnGroup rows a.group
  pub other : ForSome rmc (λ r. r.group ≢ a.group)
  pub slots : IsInRange 1 256 a.slots

pub record IsSettings (s : Settings) : Type 0 where
  pub config : IsConfig s.config
  pub product : IsProduct s.product
  pub rmc : ForSome s.rmc (IsRmc s.config.rows)
  pub ais : ForSome s.ais (IsAis s.config.rows s.rmc)
