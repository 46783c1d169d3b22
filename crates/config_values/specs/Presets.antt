-- Devices whose addresses are known before they claim them (ISO 11783-5), as they can be configured.
use Rattle.std.specs.Prelude.{◌≢◌, ◌<◌, ℕ, List, All}
use Rattle.std.specs.List.{AllPairs}
use Rattle.n2k_id.specs.declared.name.Name.{Name}
use Rattle.claim_table.specs.Claims.{places}
use Rattle.claim_table.specs.declared.preset.Preset.{Preset}

pub record AreApart (p q : Preset) : Type 0 where
  pub address : p.address ≢ q.address
  pub name : p.name ≢ q.name

-- presets beside a gateway of this NAME and address
pub record ArePresets (name : Name) (address : ℕ) (presets : List Preset) : Type 0 where
  pub addresses : All (λ p. p.address < places) presets
  -- no two share an address or a NAME
  pub apart : AllPairs AreApart presets
  -- none has the gateway's own
  pub others : All (AreApart (record { address = address; name = name })) presets
