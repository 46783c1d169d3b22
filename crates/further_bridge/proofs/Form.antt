-- Further quantities as a part beside the gateway, as one value.
use Rattle.std.proofs.Common.{◌≡◌, ℕ, zero, suc, ◌<◌, List, [], ◌∷◌, All, length, map, arith}
use Rattle.std.specs.Prelude.{slice_index_or}
use Rattle.std.proofs.lemmas.List.Elements.{All-head, All-tail}
use Rattle.quantities.specs.About.{number_of}
use Rattle.quantities.specs.declared.about.Quantity.{Quantity}
use Rattle.quantities.specs.declared.about.Quantity.TheVariants as quantity
use Rattle.n2k_id.specs.declared.pattern.Pattern.{Pattern}
use Rattle.config_values.specs.Rows.{IsTalker}
use Rattle.config_values.specs.Settings.{settings_ignoring}
use Rattle.settings.specs.Setup.{IsQuantity, gateway_of}
use Rattle.settings.specs.declared.quantity_config.Quantities.{Quantities}
use Rattle.settings.specs.declared.quantity_config.QuantityConfig.{QuantityConfig}
use Rattle.parts.specs.Compose.{maybe_speaks}
use Rattle.parts.specs.Forms.{PartForm, and_behind, streamed_place}
use Rattle.parts.specs.Voices.{IsUnderstood}
use Rattle.parts.proofs.Speaking.{if_mapped}
use Rattle.further_bridge.specs.FurtherOut.{further_out, further_utters}
use Rattle.further_bridge.specs.FurtherPart.{SpeaksQuantities, quantities_asked, quantities_say}
use Rattle.further_bridge.specs.FurtherRule.{FurtherRule, further_rule, talker_at}
use Rattle.further_bridge.specs.Kept.{FurtherKept, most_told}
use Rattle.further_bridge.specs.Promises.{StandsFurther}
use Rattle.further_bridge.proofs.QuantitiesAreRead.{quantities_are_read, quantities_say_datagrams}
use Rattle.further_bridge.proofs.StepLemmas.{commands_leave_further}

-- ---- each quantity has its place

quantity_small : (q : Quantity) → number_of q < 16
quantity_small quantity.Attitude = omega arith
quantity_small _ = omega arith

quantity_talker : (each : List QuantityConfig) (n : ℕ) → All IsQuantity each → n < length each → IsTalker (slice_index_or (map (λ q. q.talker) each) n [])
quantity_talker [] n are within = absurd (omega (arith, within))
quantity_talker (q ∷ each) zero are within = (All-head IsQuantity q each are).talker
quantity_talker (q ∷ each) (suc n) are within = quantity_talker each n (All-tail IsQuantity q each are) (omega (arith, within))

talkers : (ignored : List Pattern) (q : Quantities) → length q.each ≡ 16 → All IsQuantity q.each
    → (x : Quantity) → IsTalker (talker_at (further_rule ignored q) (number_of x))
unfolding further_rule
talkers ignored q many each x = quantity_talker q.each (number_of x) each (omega (arith, many, quantity_small x))

pub understood : IsUnderstood quantities_asked (maybe_speaks SpeaksQuantities)
unfolding settings_ignoring
understood x typed valid =
    let ignored = x.ignore.items in
    if_mapped (further_rule ignored) (λ (r : FurtherRule). SpeaksQuantities r (gateway_of x)) x.quantities
    (λ q is. record { sfi = typed.sfi; talkers = talkers ignored q (typed.quantities q is) (valid.quantities q is).each })

abbrev pub quantities : PartForm
quantities = record {
  rule = FurtherRule;
  asked = quantities_asked;
  kept = FurtherKept;
  places = and_behind (streamed_place most_told) (and_behind (streamed_place 0) (streamed_place 0));
  stand = StandsFurther;
  give = further_out;
  utter = further_utters;
  say = quantities_say;
  speaks = SpeaksQuantities;
  commands = λ x c s h source address k are stands. commands_leave_further x c s h source address k are stands;
  read = quantities_are_read;
  understood = understood;
  datagrams = quantities_say_datagrams;
}
