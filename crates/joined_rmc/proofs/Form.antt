-- RMC as a part beside the gateway, as one value.
use Rattle.history.specs.Entries.{now}
use Rattle.settings.specs.Setup.{gateway_of}
use Rattle.std.specs.Prelude.{Some}
use Rattle.plain_out.specs.declared.stream.Stream.TheVariants as stream
use Rattle.parts.specs.Compose.{maybe_speaks}
use Rattle.parts.specs.Utterances.{utters_datagrams}
use Rattle.parts.specs.Forms.{PartForm, streamed_place}
use Rattle.parts.specs.PartSteps.{KeepsCommands}
use Rattle.parts.specs.Voices.{IsUnderstood}
use Rattle.parts.proofs.Speaking.{if_mapped}
use Rattle.joined_rmc.specs.RmcOut.{RmcRule}
use Rattle.joined_rmc.specs.RmcPart.{SpeaksRmc, joining_gives, joining_stands, rmc_asked, rmc_rule_of, rmc_says, rmc_utters}
use Rattle.joined_rmc.specs.declared.joining.Joining.{Joining}
use Rattle.joined_rmc.proofs.Commands.{commands_keep_joins}
use Rattle.joined_rmc.proofs.RmcIsRead.{rmc_is_read}

pub keeps_commands : KeepsCommands joining_stands
keeps_commands r c s h source address k are stands = (stands.0, commands_keep_joins r c s h (now h) source address k.join stands.1)

pub understood : IsUnderstood rmc_asked (maybe_speaks SpeaksRmc)
understood x typed valid =
    if_mapped (rmc_rule_of x.settings.config) (λ (q : RmcRule). SpeaksRmc q (gateway_of x)) x.settings.rmc
    (λ r is. record { sfi = typed.sfi; talker = (valid.settings.rmc r is).talker })

abbrev pub joined_rmc : PartForm
joined_rmc = record {
  rule = RmcRule;
  asked = rmc_asked;
  kept = Joining;
  places = streamed_place 0;
  stand = joining_stands;
  give = joining_gives;
  utter = rmc_utters;
  say = rmc_says;
  speaks = SpeaksRmc;
  commands = keeps_commands;
  read = rmc_is_read;
  understood = understood;
  datagrams = utters_datagrams (Some stream.Rmc) joining_gives;
}
