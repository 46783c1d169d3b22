-- A change of the device that a row is taken from as a part beside the gateway.
use Rattle.std.specs.Prelude.{ℕ, List, Option}
use Rattle.n2k_id.specs.declared.name.Name.{Name}
use Rattle.gate_events.specs.Emit.{Emit}
use Rattle.history.specs.Entries.{Entry, History}
use Rattle.history.specs.Settings.{Settings}
use Rattle.settings.specs.declared.setup.Setup.{Setup}
use Rattle.parts.specs.Compose.{wanted}
use Rattle.source_changes.specs.SourceOut.{source_out}
use Rattle.source_changes.specs.WatchStands.{WatchStands}

abbrev pub sources_asked : Setup → Option (Unit {0})
sources_asked x = wanted x.sources

abbrev pub sources_stand : Unit {0} → Settings → ℕ → History → List (Option Name) → Type 0
sources_stand r c s h names = WatchStands c s h names

abbrev pub sources_give : Unit {0} → Settings → ℕ → History → Entry → List Emit
sources_give r c s h e = source_out c s h e
