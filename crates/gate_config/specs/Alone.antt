-- Documents that ask for no further part: none of the keys stands that are read behind those of the settings. They say their settings, and
-- nothing beside them.
use Rattle.std.specs.Prelude.{◌≡◌, ℕ, List, ◌++◌, Option, Some, None, Result, Ok, Err}
use Rattle.std.specs.List.{AllByRecursion}
use Rattle.toml.specs.Data as toml
use Rattle.toml.specs.Data.{Data, Members, get_member}
use Rattle.quantities.specs.About.{quantities as all_quantities}
use Rattle.readings.specs.Rows.{rows as all_rows}
use Rattle.config_document.specs.Places.{Place}
use Rattle.config_document.specs.declared.fault.ConfigFault.{ConfigFault}
use Rattle.gate_config.specs.ConfigOf.{IsConfigOf, IsDocument, IsWholeConfigOf, document_place}
use Rattle.gate_config.specs.Keys
use Rattle.gate_config.specs.Keys.{settings_in, setup_in}
use Rattle.gate_config.specs.Unknown.{quantity_names, row_names, table_of}
use Rattle.settings.specs.Setup.{alone}
use Rattle.settings.specs.declared.settings.Settings.{Settings}
use Rattle.settings.specs.declared.setup.Setup.{Setup}

-- ---- keys that don't stand in a document

-- what stands at a name is a table, where anything does
abbrev pub IsTable : Option Data → Type 0
IsTable None = Unit {0}
IsTable (Some (toml.table keys)) = Unit {0}
IsTable (Some value) = ⊥

-- the table at a name has none of these keys; what is no table has no keys
abbrev pub HasNone : List (List ℕ) → Option Data → Type 0
HasNone names found = AllByRecursion (λ name. get_member name (table_of found) ≡ None) names

-- nor has any of the tables at these names
abbrev pub NoneHas : List (List ℕ) → List (List ℕ) → Members → Type 0
NoneHas names tables members = AllByRecursion (λ table. HasNone names (get_member table members)) tables

-- the document has no table of this name, or one with none of these keys
pub record Lacks (name : List ℕ) (names : List (List ℕ)) (document : Place) : Type 0 where
  pub is_table : IsTable (get_member name document.members)
  pub none : HasNone names (get_member name document.members)

-- For each part its table. Those of the bus, of the network and of the rows stand for the settings too, which refuse what is no table there.
pub record AsksNothingFurther (document : Place) : Type 0 where
  pub ignored : HasNone Keys.ignored.known (get_member Keys.ignored.name document.members)
  pub optional : HasNone Keys.optional.known (get_member Keys.optional.name document.members)
  pub quantities : Lacks Keys.further.name (Keys.further.known ++ quantity_names all_quantities) document
  pub reports : Lacks Keys.report.name Keys.report.known document
  pub plain : Lacks Keys.plain.name (Keys.plain.known ++ Keys.pace.known) document
  pub recording : Lacks Keys.serve.name Keys.serve.known document
  pub heading : Lacks Keys.heading.name Keys.heading.known document
  pub nav : Lacks Keys.nav.name Keys.nav.known document
  pub limits : NoneHas Keys.watched.known (row_names all_rows) (table_of (get_member Keys.watched.name document.members))
  pub alerts : Lacks Keys.alerts.name Keys.alerts.known document
  pub heartbeat : Lacks Keys.heartbeat.name Keys.heartbeat.known document

-- the document in these bytes, if there is one
abbrev pub FileAsksNothingFurther : List ℕ → Type 0
FileAsksNothingFurther bytes = (members : Members) → IsDocument bytes members → AsksNothingFurther (document_place members)

-- ---- what such a document says

-- the settings and nothing beside them, or the same fault
abbrev pub alone_of : Result Settings ConfigFault → Result Setup ConfigFault
alone_of (Ok settings) = Ok (alone settings)
alone_of (Err f) = Err f

-- no key but those of the settings says anything, and none is a fault
abbrev pub KeysSaySettings : Type 0
KeysSaySettings = (document : Place) → AsksNothingFurther document → setup_in document ≡ alone_of (settings_in document)

-- all that a file says is what it says of the settings
abbrev pub FilesSaySettings : Type 0
FilesSaySettings =
    (bytes : List ℕ) (all : Result Setup ConfigFault) (settings : Result Settings ConfigFault) → FileAsksNothingFurther bytes
    → IsWholeConfigOf bytes all → IsConfigOf bytes settings → all ≡ alone_of settings
