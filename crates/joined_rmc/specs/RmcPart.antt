-- RMC as a part beside the gateway.
use Rattle.std.specs.Prelude.{◌≡◌, ℕ, List, [], ◌∷◌, map, Option, Some, option_map, if◌then◌else◌}
use Rattle.gate_events.specs.Emit.{Emit}
use Rattle.sentence_text.specs.Names.{IsSfi}
use Rattle.sentence_profile.specs.Rmc.{rmc_text}
use Rattle.history.specs.Entries.{Entry, History, moment_of}
use Rattle.history.specs.Settings.{Settings}
use Rattle.config_values.specs.Rows.{IsTalker}
use Rattle.config_values.specs.declared.config.Config.{Config}
use Rattle.config_values.specs.declared.row_config.RowConfig.{RowConfig}
use Rattle.settings.specs.declared.rmc.RmcConfig.{RmcConfig}
use Rattle.settings.specs.declared.setup.Setup.{Setup}
use Rattle.parts.specs.Selected.{selected_at}
use Rattle.parts.specs.Utterances.{utters_of}
use Rattle.parts.specs.Voices.{Spoken, in_one}
use Rattle.plain_out.specs.Pace.{Utterance}
use Rattle.plain_out.specs.declared.stream.Stream.TheVariants as stream
use Rattle.joined_rmc.specs.JoinStands.{JoinStands}
use Rattle.joined_rmc.specs.Lasting.{is_due}
use Rattle.joined_rmc.specs.RmcOut.{RmcRule, minimum, rmc_out, rule_by}
use Rattle.joined_rmc.specs.declared.joining.Joining.{Joining}

-- ---- by what it is said

-- of each row how long a source counts, in milliseconds
abbrev pub timeouts_of : List RowConfig → List ℕ
timeouts_of rows = map (λ row. row.timeout_ms) rows

abbrev pub rmc_rule_of : Config → RmcConfig → RmcRule
rmc_rule_of c r = rule_by r c.sfi (timeouts_of c.rows)

abbrev pub rmc_rule : Config → Option RmcConfig → Option RmcRule
rmc_rule c rmc = option_map (rmc_rule_of c) rmc

abbrev pub rmc_asked : Setup → Option RmcRule
rmc_asked x = rmc_rule x.settings.config x.settings.rmc

-- ---- what it keeps and gives

abbrev pub joining_stands : RmcRule → Settings → ℕ → History → Joining → Type 0
joining_stands r c s h k = (k.group ≡ r.group) × JoinStands r c s h k.join

abbrev pub joining_gives : RmcRule → Settings → ℕ → History → Entry → List Emit
joining_gives r c s h e = rmc_out r c s h e

-- RMC is a stream
abbrev pub rmc_utters : RmcRule → Settings → ℕ → History → Entry → List Utterance
rmc_utters = utters_of (Some stream.Rmc) joining_gives

-- ---- what is said on the network: RMC, at each selected position

abbrev pub rmc_says : RmcRule → Settings → ℕ → History → Entry → Spoken
rmc_says r c s h e = if is_due (selected_at c s h e) then in_one (rmc_text r.talker (minimum r c s (e ∷ h) (moment_of e))) else []

pub record SpeaksRmc (r : RmcRule) (c : Settings) : Type 0 where
  pub sfi : IsSfi r.sfi
  pub talker : IsTalker r.talker
