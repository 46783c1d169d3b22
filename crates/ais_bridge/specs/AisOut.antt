-- What the bridge for the reports of ships around emits, as a definition over all that came: it hears one PGN, 129038 (canboat), whose messages
-- are fast packets of devices that hold their address (ISO 11783-5), and says each report once.
use Rattle.std.specs.Prelude.{ℕ, ◌+◌, ◌==◌, List, [], ◌∷◌, ◌++◌, Option, option_map, if◌then◌else◌}
use Rattle.pgn_profile.specs.declared.kinds.Kind.{Kind}
use Rattle.pgn_profile.specs.declared.kinds.Kind.TheVariants.{Fast, Outside}
use Rattle.settings.specs.declared.ais.AisConfig.{AisConfig}
use Rattle.history.specs.Entries.{Entry, History}
use Rattle.history.specs.Messages.{Message}
use Rattle.history.specs.Settings.{Settings, Receiver}
use Rattle.gate_events.specs.Emit.{Emit}
use Rattle.gate_model.specs.Said.{complete_of}
use Rattle.gate_outbox.specs.Output.{emits_of}
use Rattle.bus_listener.specs.Heard.{heard_done, heard_out, listener}
use Rattle.ais_bridge.specs.Reports.{line_count, said_by, said_gives}
use Rattle.ais_bridge.specs.declared.said.Said.{Said}

abbrev pub report_pgn : ℕ
report_pgn = 129038

abbrev pub report_kinds : ℕ → Kind
report_kinds pgn = if pgn == report_pgn then Fast else Outside

-- the bridge as a receiver
abbrev pub ais_receiver : AisConfig → Settings → Receiver
ais_receiver a c = listener report_kinds a.slots c

module _ (a : AisConfig) (c : Settings) (s : ℕ) where
  -- the message that an entry completes, and what it says
  abbrev pub ais_done : History → Entry → Option Message
  ais_done h e = heard_done report_kinds a.slots c s h e

  abbrev pub ais_said : History → Entry → Option Said
  ais_said h e = option_map said_by (option_map complete_of (ais_done h e))

  -- how many lines were said in a history
  abbrev pub lines_said : History → ℕ
  lines_said [] = 0
  lines_said (e ∷ h) = lines_said h + line_count (ais_said h e)

  -- a report, or the rule that it breaks
  abbrev pub report_gives : History → Entry → List Emit
  report_gives h e = emits_of (said_gives a.group c.sfi (lines_said h) (ais_said h e))

  -- all that an entry gives: rules 10 to 17 of what is heard, and behind them what a report gives; a command gives nothing
  abbrev pub ais_out : History → Entry → List Emit
  ais_out h e = heard_out report_kinds a.slots c s h e ++ report_gives h e
