-- Further quantities as a part beside the gateway: by what they are configured, and what they say on the network.
use Rattle.std.specs.Prelude.{ℕ, List, [], ◌∷◌, map, Option, option_map}
use Rattle.n2k_id.specs.declared.pattern.Pattern.{Pattern}
use Rattle.sentence_text.specs.Names.{IsSfi}
use Rattle.quantities.specs.About.{number_of}
use Rattle.quantities.specs.Saying.{sentence_of}
use Rattle.quantities.specs.declared.about.Quantity.{Quantity}
use Rattle.quantities.specs.declared.value.Value.{Value}
use Rattle.config_values.specs.Rows.{IsTalker}
use Rattle.history.specs.Entries.{Entry, History}
use Rattle.history.specs.Settings.{Settings}
use Rattle.settings.specs.declared.quantity_config.Quantities.{Quantities}
use Rattle.settings.specs.declared.setup.Setup.{Setup}
use Rattle.parts.specs.Voices.{Spoken}
use Rattle.further_bridge.specs.FurtherOut.{number_in, said_at}
use Rattle.further_bridge.specs.FurtherRule.{FurtherRule, further_rule, talker_at}

abbrev pub quantities_rule : List Pattern → Option Quantities → Option FurtherRule
quantities_rule ignored quantities = option_map (further_rule ignored) quantities

abbrev pub quantities_asked : Setup → Option FurtherRule
quantities_asked x = quantities_rule x.ignore.items x.quantities

-- ---- further quantities of a message, each in one sentence

abbrev pub value_says : FurtherRule → Value → List (List ℕ)
value_says x v = sentence_of x.twin (talker_at x (number_in v)) v ∷ []

abbrev pub quantities_say : FurtherRule → Settings → ℕ → History → Entry → Spoken
quantities_say x c s h e = map (value_says x) (said_at x c s h e)

pub record SpeaksQuantities (x : FurtherRule) (c : Settings) : Type 0 where
  pub sfi : IsSfi c.sfi
  pub talkers : (q : Quantity) → IsTalker (talker_at x (number_of q))
