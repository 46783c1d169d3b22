-- What a configuration file says: all that it configures, or the first fault, over the document that TOML reads in it.
use Rattle.std.specs.Prelude.{◌≡◌, ◌⊎◌, ℕ, List, [], Option, Some, None, Result, Ok, Err}
use Rattle.std.specs.Str.{IsUtf8}
use Rattle.toml.specs.Data.{Members}
use Rattle.toml.specs.Parse.{parse_document}
use Rattle.config_document.specs.Faults.{key_of}
use Rattle.config_document.specs.Places.{Place}
use Rattle.config_document.specs.declared.fault.ConfigFault.{ConfigFault}
use Rattle.config_document.specs.declared.fault.ConfigFault.TheVariants as fault
use Rattle.config_values.specs.declared.config.Config.{Config}
use Rattle.gate_config.specs.Keys.{setup_in}
use Rattle.gate_config.specs.Reading.{◌>>=◌}
use Rattle.gate_config.specs.Unknown.{first_unknown}
use Rattle.settings.specs.declared.settings.Settings.{Settings}
use Rattle.settings.specs.declared.setup.Setup.{Setup}

-- keys that aren't known come last
abbrev pub known : Option (List ℕ) → Setup → Result Setup ConfigFault
known None setup = Ok setup
known (Some path) setup = Err (fault.Unknown (key_of path))

unfoldable pub config_in : Place → Result Setup ConfigFault
config_in document = setup_in document >>= known (first_unknown document)

-- the document itself: before its keys nothing stands in their paths
abbrev pub document_place : Members → Place
document_place members = record { prefix = []; members = members }

-- text in UTF-8 that is a document of TOML
pub record IsDocument (bytes : List ℕ) (members : Members) : Type 0 where
  pub utf8 : IsUtf8 bytes
  pub parsed : parse_document bytes ≡ Some members

-- bytes that are no document are not TOML; else the document decides
abbrev pub IsWholeConfigOf : List ℕ → Result Setup ConfigFault → Type 0
IsWholeConfigOf bytes given =
    (((members : Members) → ¬ (IsDocument bytes members)) × (given ≡ Err fault.NotToml))
    ⊎ ((members : Members) × IsDocument bytes members × (given ≡ config_in (document_place members)))

-- the settings, without what is read beside them
abbrev pub settings_alone : Result Setup ConfigFault → Result Settings ConfigFault
settings_alone (Ok setup) = Ok setup.settings
settings_alone (Err f) = Err f

abbrev pub IsConfigOf : List ℕ → Result Settings ConfigFault → Type 0
IsConfigOf bytes given = (all : Result Setup ConfigFault) × IsWholeConfigOf bytes all × (given ≡ settings_alone all)

-- the gateway's own part
abbrev pub config_alone : Result Settings ConfigFault → Result Config ConfigFault
config_alone (Ok settings) = Ok settings.config
config_alone (Err f) = Err f

abbrev pub IsConfigAlone : List ℕ → Result Config ConfigFault → Type 0
IsConfigAlone bytes given = (all : Result Settings ConfigFault) × IsConfigOf bytes all × (given ≡ config_alone all)
