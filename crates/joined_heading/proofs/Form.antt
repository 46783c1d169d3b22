-- Joined headings as a part beside the gateway, as one value.
use Rattle.std.specs.Prelude.{Some}
use Rattle.config_values.specs.Settings.{settings_ignoring}
use Rattle.settings.specs.Setup.{gateway_of}
use Rattle.plain_out.specs.declared.stream.Stream.TheVariants as stream
use Rattle.parts.specs.Compose.{maybe_speaks}
use Rattle.parts.specs.Forms.{PartForm, streamed_place}
use Rattle.parts.specs.Utterances.{utters_datagrams}
use Rattle.parts.specs.Voices.{IsUnderstood}
use Rattle.parts.proofs.Speaking.{if_mapped}
use Rattle.joined_heading.specs.HeadingOut.{heading_out, heading_says, heading_utters}
use Rattle.joined_heading.specs.HeadingPart.{SpeaksHeading, heading_asked}
use Rattle.joined_heading.specs.HeadingRule.{HeadingRule, heading_rule}
use Rattle.joined_heading.specs.Kept.{HeadingKept, most_told}
use Rattle.joined_heading.specs.Promises.{StandsHeading}
use Rattle.joined_heading.proofs.HeadingIsRead.{heading_is_read}
use Rattle.joined_heading.proofs.Steps.{commands_keep_headings}

pub understood : IsUnderstood heading_asked (maybe_speaks SpeaksHeading)
unfolding settings_ignoring
understood x typed valid =
    if_mapped (heading_rule x.ignore.items) (λ (r : HeadingRule). SpeaksHeading r (gateway_of x)) x.heading
    (λ j is. record { sfi = typed.sfi; talker = (valid.heading j is).variation.talker })

abbrev pub joined_headings : PartForm
joined_headings = record {
  rule = HeadingRule;
  asked = heading_asked;
  kept = HeadingKept;
  places = streamed_place most_told;
  stand = StandsHeading;
  give = heading_out;
  utter = heading_utters;
  say = heading_says;
  speaks = SpeaksHeading;
  commands = λ x c s h source address k are stands. commands_keep_headings x c s h source address k are stands;
  read = heading_is_read;
  understood = understood;
  datagrams = utters_datagrams (Some stream.JoinedHeading) heading_out;
}
