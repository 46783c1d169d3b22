-- How a position report of a ship (NMEA 2000 PGN 129038; ITU-R M.1371) is told to the network: the rules that it can break, and the datagram
-- in which it is passed on (IEC 61162-1, VDM; IEC 61162-450).
use Rattle.std.specs.Prelude.{ℕ, List, [], ◌∷◌, ◌++◌, Option, Some, None, Result, Ok, Err}
use Rattle.report_rules.specs.Rules as rules
use Rattle.sentence_text.specs.Sentence.{SentenceParts, sentence}
use Rattle.datagram450.specs.Datagram.{sentence_datagram}
use Rattle.ais_report.specs.declared.report.AisReport.{AisReport}
use Rattle.ais_report.specs.declared.report.AisFault.{AisFault}
use Rattle.ais_report.specs.declared.report.AisFault.TheVariants.{Short, Outside}
use Rattle.ais_report.specs.Armour.{armour_of}
use Rattle.ais_report.specs.Converted.{converted}
use Rattle.gate_events.specs.Emit.{net}
use Rattle.history.specs.Emits.{of_source}
use Rattle.gate_model.specs.Said.{Complete}
use Rattle.gate_outbox.specs.Output.{Emitted, no_emits}
use Rattle.ais_bridge.specs.declared.said.Said.{Said}

-- ---- the sentence: one of one, without a number of its own; the channel's letter, the report, and no bit that fills it up

abbrev pub report_parts : AisReport × ℕ → SentenceParts
report_parts x = record {
  start = 33;
  talker = 65 ∷ 73 ∷ [];
  formatter = 86 ∷ 68 ∷ 77 ∷ [];
  body = 44 ∷ 49 ∷ 44 ∷ 49 ∷ 44 ∷ 44 ∷ x.1 ∷ 44 ∷ (armour_of x.0 ++ 44 ∷ 48 ∷ []);
}

abbrev pub report_sentence : AisReport × ℕ → List ℕ
report_sentence x = sentence (report_parts x)

-- ---- the datagram, before which so many lines were said

unfoldable pub report_datagram : List ℕ → ℕ → AisReport × ℕ → List ℕ
report_datagram sfi before x = sentence_datagram sfi before (report_sentence x)

-- ---- a message, by what its payload says

abbrev pub said_by : Complete → Said
said_by d = record { source = d.source; pgn = d.pgn; says = converted d.payload }

-- a datagram, or the rule that it breaks, 22 or 27; nothing where there is none
module _ (group sfi : List ℕ) (before : ℕ) where
  abbrev pub says_gives : ℕ → ℕ → Result (AisReport × ℕ) AisFault → Emitted
  says_gives source pgn (Ok x) = record { told = []; posted = net group (report_datagram sfi before x) ∷ [] }
  says_gives source pgn (Err Short) = record { told = of_source rules.short_message source pgn ∷ []; posted = [] }
  says_gives source pgn (Err Outside) = record { told = of_source rules.ais_report_outside source pgn ∷ []; posted = [] }

  abbrev pub said_gives : Option Said → Emitted
  said_gives None = no_emits
  said_gives (Some x) = says_gives x.source x.pgn x.says

-- ---- in how many lines it is told

abbrev pub lines_of : Result (AisReport × ℕ) AisFault → ℕ
lines_of (Ok x) = 1
lines_of (Err fault) = 0

abbrev pub line_count : Option Said → ℕ
line_count None = 0
line_count (Some x) = lines_of x.says
