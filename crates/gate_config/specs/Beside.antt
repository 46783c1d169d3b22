-- What can stand beside what stands already: presets of the bus (ISO 11783-5), routes of transmission groups and the groups of parts
-- (IEC 61162-450).
use Rattle.std.specs.Prelude.{◌≢◌, ◌<◌, ℕ, List, [], ◌∷◌, All, Option}
use Rattle.std.specs.Int.{IsInRange}
use Rattle.std.specs.List.{AllPairs}
use Rattle.std.specs.Option.{ForSome}
use Rattle.arrayvec.specs.ArrayVec.{ArrayVec}
use Rattle.claim_table.specs.Claims.{places}
use Rattle.claim_table.specs.declared.preset.Preset.{Preset}
use Rattle.config_values.specs.Configs.{AreEnds}
use Rattle.config_values.specs.Endpoints.{IsEndpoint}
use Rattle.config_values.specs.Presets.{AreApart}
use Rattle.config_values.specs.declared.config.Ends.{Ends}
use Rattle.config_values.specs.declared.row_config.RowConfig.{RowConfig}
use Rattle.network_routes.specs.declared.Route.{Route}
use Rattle.settings.specs.Setup.{IsQuantity}
use Rattle.settings.specs.Settings.{IsAis, IsOwnGroup, IsProduct, IsRmc}
use Rattle.settings.specs.declared.ais.AisConfig.{AisConfig}
use Rattle.settings.specs.declared.quantity_config.Quantities.{Quantities}
use Rattle.settings.specs.declared.rmc.RmcConfig.{RmcConfig}
use Rattle.bus_identity.specs.declared.product.Product.{Product}

-- a preset beside the gateway's own address and NAME, and those of the presets before it
pub record IsPresetBeside (own : Preset) (earlier : List Preset) (preset : Preset) : Type 0 where
  pub place : preset.address < places
  pub from_own : AreApart own preset
  pub from_earlier : All (λ e. AreApart e preset) earlier

-- a route beside those before it
pub record IsRouteBeside (earlier : List Route) (route : Route) : Type 0 where
  pub from_earlier : All (λ e. e.group ≢ route.group) earlier
  pub end : IsEndpoint route.address.items

-- a part's group beside those of the rows and of other parts
pub record IsGroupBeside (rows : List RowConfig) (parts : List (Option (List ℕ))) (group : List ℕ) : Type 0 where
  pub from_rows : IsOwnGroup rows group
  pub from_parts : All (λ taken. ForSome taken (λ other. other ≢ group)) parts

-- reports of ships around beside the rows and another part
pub record IsAisBeside (rows : List RowConfig) (part : Option (List ℕ)) (ais : AisConfig) : Type 0 where
  pub beside : IsGroupBeside rows (part ∷ []) ais.group
  pub most : IsInRange 1 256 ais.slots

-- further quantities beside the rows and other parts
pub record AreQuantitiesBeside (rows : List RowConfig) (parts : List (Option (List ℕ))) (all : Quantities) : Type 0 where
  pub beside : IsGroupBeside rows parts all.group
  pub most : IsInRange 1 256 all.slots
  pub each : All IsQuantity all.each

-- sources of the network beside the gateway itself
pub record AreSourcesBeside (own : List ℕ) (sources : List (List ℕ)) : Type 0 where
  pub apart : AllPairs (λ s t. s ≢ t) sources
  pub from_own : All (λ s. own ≢ s) sources

-- whom the network is heard from, and where its link listens and sends
pub record AreNetKeys (own : List ℕ) (keys : ArrayVec (List ℕ) × ArrayVec ℕ × ArrayVec ℕ) : Type 0 where
  pub sources : AreSourcesBeside own keys.0.items
  pub listen : IsEndpoint keys.1.items
  pub send : IsEndpoint keys.2.items

-- whom the network is heard from, and where the links listen and send
pub record AreLinks (own : List ℕ) (links : ArrayVec (List ℕ) × Ends) : Type 0 where
  pub sources : AreSourcesBeside own links.0.items
  pub ends : AreEnds links.1

-- what the gateway says of itself, and the parts beside it
pub record AreParts (rows : List RowConfig) (parts : Product × Option RmcConfig × Option AisConfig) : Type 0 where
  pub product : IsProduct parts.0
  pub rmc : ForSome parts.1 (IsRmc rows)
  pub ais : ForSome parts.2 (IsAis rows parts.1)
