-- The reports of ships around as a part beside the gateway: by what it is configured, and what it says on the network.
use Rattle.std.specs.Prelude.{ℕ, [], Option, Some, None, Result, Ok, Err}
use Rattle.sentence_text.specs.Names.{IsSfi}
use Rattle.ais_report.specs.Converted.{converted}
use Rattle.ais_report.specs.declared.report.AisFault.{AisFault}
use Rattle.ais_report.specs.declared.report.AisReport.{AisReport}
use Rattle.history.specs.Entries.{Entry, History}
use Rattle.history.specs.Messages.{Message}
use Rattle.history.specs.Settings.{Settings}
use Rattle.settings.specs.declared.ais.AisConfig.{AisConfig}
use Rattle.settings.specs.declared.setup.Setup.{Setup}
use Rattle.parts.specs.Voices.{Spoken, in_one}
use Rattle.ais_bridge.specs.AisOut.{ais_done}
use Rattle.ais_bridge.specs.Reports.{report_sentence}

abbrev pub ships_asked : Setup → Option AisConfig
ships_asked x = x.settings.ais

abbrev pub most_reports : ℕ
most_reports = 299

-- ---- the report of a ship

abbrev pub report_says : Result (AisReport × ℕ) AisFault → Spoken
report_says (Ok x) = in_one (report_sentence x)
report_says (Err fault) = []

abbrev pub ship_says : Option Message → Spoken
ship_says None = []
ship_says (Some d) = report_says (converted d.payload)

abbrev pub ships_say : AisConfig → Settings → ℕ → History → Entry → Spoken
ships_say a c s h e = ship_says (ais_done a c s h e)

abbrev pub SpeaksShips : AisConfig → Settings → Type 0
SpeaksShips a c = IsSfi c.sfi
