-- The reports of ships around as a part beside the gateway, as one value.
use Rattle.std.specs.Prelude.{None}
use Rattle.config_values.specs.Settings.{settings_ignoring}
use Rattle.settings.specs.declared.ais.AisConfig.{AisConfig}
use Rattle.parts.specs.Compose.{maybe_speaks}
use Rattle.parts.specs.Utterances.{streamless, utters_datagrams}
use Rattle.parts.specs.Forms.{PartForm, place}
use Rattle.parts.specs.Voices.{IsUnderstood}
use Rattle.ais_bridge.specs.AisKept.{AisKept}
use Rattle.ais_bridge.specs.AisOut.{ais_out}
use Rattle.ais_bridge.specs.AisPart.{SpeaksShips, most_reports, ships_asked, ships_say}
use Rattle.ais_bridge.specs.Promises.{StandsAis}
use Rattle.ais_bridge.proofs.CommandLemmas.{commands_leave_ais}
use Rattle.ais_bridge.proofs.ShipsAreRead.{ships_are_read}

pub understood : IsUnderstood ships_asked (maybe_speaks SpeaksShips)
unfolding settings_ignoring
understood x typed valid = λ a is. typed.sfi

abbrev pub ships : PartForm
ships = record {
  rule = AisConfig;
  asked = ships_asked;
  kept = AisKept;
  places = place most_reports;
  stand = StandsAis;
  give = ais_out;
  utter = streamless ais_out;
  say = ships_say;
  speaks = SpeaksShips;
  commands = λ a c s h source address k are stands. commands_leave_ais a c s h source address k are stands;
  read = ships_are_read;
  understood = understood;
  datagrams = utters_datagrams None ais_out;
}
