-- The reports of ships around are read.
use Rattle.std.proofs.Common.{◌≡◌, ℕ, List, refl}
use Rattle.std.specs.Prelude.{Option, option_map, Some, None, Result, Ok, Err}
use Rattle.sentence_text.specs.Names.{IsSfi}
use Rattle.sentence_text.proofs.Only.{only}
use Rattle.sentence_profile.specs.Laws.{IsOneSentence}
use Rattle.ais_report.specs.Converted.{converted}
use Rattle.ais_report.specs.declared.report.AisFault.{AisFault}
use Rattle.ais_report.specs.declared.report.AisFault.TheVariants as faults
use Rattle.ais_report.specs.declared.report.AisReport.{AisReport}
use Rattle.settings.specs.declared.ais.AisConfig.{AisConfig}
use Rattle.history.specs.Entries.{Entry, History}
use Rattle.history.specs.EntryLaws.{nets_in}
use Rattle.history.specs.Messages.{Message}
use Rattle.history.specs.Settings.{Settings}
use Rattle.gate_model.specs.Said.{complete_of}
use Rattle.gate_outbox.specs.Output.{emits_of}
use Rattle.ais_bridge.specs.Heard.{heard_out}
use Rattle.ais_bridge.specs.AisOut.{ais_done, ais_out, lines_said, report_gives, report_kinds}
use Rattle.ais_bridge.specs.Promises.{IsSaid}
use Rattle.ais_bridge.specs.Reports.{report_datagram, report_parts, report_sentence, said_by, said_gives, says_gives}
use Rattle.ais_bridge.proofs.SentenceLemmas.{reports_are_said}
use Rattle.parts.specs.Voices.{EachSays, behind_quiet}
use Rattle.parts.proofs.Lines.{says_one}
use Rattle.bus_listener.proofs.NoDatagrams.{no_heard}
use Rattle.ais_bridge.specs.AisPart.{SpeaksShips, report_says, ship_says, ships_say}

one_report : (x : AisReport × ℕ) → IsSaid x → IsOneSentence (report_sentence x)
one_report x is = record { parts = report_parts x; is_read = only (report_sentence x) (report_parts x) is.is_sentence; short = is.short }

module _ (group sfi : List ℕ) (before : ℕ) (form : IsSfi sfi) (source pgn : ℕ) where
  abbrev IsRead : Result (AisReport × ℕ) AisFault → Type 0
  IsRead o = EachSays (nets_in (emits_of (says_gives group sfi before source pgn o))) (report_says o)

  said_is_read : (payload : List ℕ) (o : Result (AisReport × ℕ) AisFault) → converted payload ≡ o → IsRead o
  unfolding report_datagram
  said_is_read payload (Err faults.Short) is = tt
  said_is_read payload (Err faults.Outside) is = tt
  said_is_read payload (Ok x) is = (says_one sfi before (report_sentence x) form (one_report x (reports_are_said payload x is)), tt)

  report_is_read : (payload : List ℕ) → IsRead (converted payload)
  report_is_read payload = said_is_read payload (converted payload) refl

pub ships_are_read : (a : AisConfig) (c : Settings) (s : ℕ) (h : History) (e : Entry) → SpeaksShips a c → EachSays (nets_in (ais_out a c s h e)) (ships_say a c s h e)
ships_are_read a c s h e sfi =
    behind_quiet (heard_out report_kinds a.slots c s h e) (report_gives a c s h e) (ships_say a c s h e) (no_heard report_kinds a.slots c s h e) (by (ais_done a c s h e))
  where
    by : (o : Option Message)
        → EachSays (nets_in (emits_of (said_gives a.group c.sfi (lines_said a c s h) (option_map said_by (option_map complete_of o))))) (ship_says o)
    by None = tt
    by (Some d) = report_is_read a.group c.sfi (lines_said a c s h) sfi d.source d.pgn d.payload
