-- The legs of plotters as a part beside the gateway, as one value.
use Rattle.std.specs.Prelude.{None}
use Rattle.config_values.specs.Settings.{settings_ignoring}
use Rattle.settings.specs.Setup.{gateway_of}
use Rattle.parts.specs.Compose.{maybe_speaks}
use Rattle.parts.specs.Forms.{PartForm, place}
use Rattle.parts.specs.Utterances.{streamless, utters_datagrams}
use Rattle.parts.specs.Voices.{IsUnderstood}
use Rattle.parts.proofs.Speaking.{if_mapped}
use Rattle.navigation.specs.Kept.{NavKept, most_told}
use Rattle.navigation.specs.NavOut.{nav_out, nav_says}
use Rattle.navigation.specs.NavPart.{SpeaksNav, nav_asked}
use Rattle.navigation.specs.NavRule.{NavRule, nav_rule}
use Rattle.navigation.specs.Promises.{StandsNav}
use Rattle.navigation.proofs.NavIsRead.{nav_is_read}
use Rattle.navigation.proofs.Steps.{commands_keep_nav}

pub understood : IsUnderstood nav_asked (maybe_speaks SpeaksNav)
unfolding settings_ignoring
understood x typed valid =
    if_mapped (nav_rule x.ignore.items) (λ (r : NavRule). SpeaksNav r (gateway_of x)) x.nav
    (λ n is. record { sfi = typed.sfi; talker = (valid.nav n is).legs.talker })

abbrev pub plotters : PartForm
plotters = record {
  rule = NavRule;
  asked = nav_asked;
  kept = NavKept;
  places = place most_told;
  stand = StandsNav;
  give = nav_out;
  utter = streamless nav_out;
  say = nav_says;
  speaks = SpeaksNav;
  commands = λ x c s h source address k are stands. commands_keep_nav x c s h source address k are stands;
  read = nav_is_read;
  understood = understood;
  datagrams = utters_datagrams None nav_out;
}
