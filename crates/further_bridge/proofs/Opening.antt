-- With nothing heard, what is kept of further quantities stands for that nothing came.
use Rattle.std.proofs.Common.{◌≡◌, ℕ, ◌<◌, zero, suc, List, [], ◌∷◌, length, map, refl, sym, ap, subst, ◌∙◌, arith}
use Rattle.std.proofs.lemmas.List.{length-map}
use Rattle.n2k_id.specs.declared.pattern.Pattern.{Pattern}
use Rattle.slot_views.specs.Slots.{SlotMap}
use Rattle.fast_packet.specs.declared.key.FastKey.{FastKey}
use Rattle.arrayvec.specs.ArrayVec.{ArrayVec}
use Rattle.claim_table.specs.Claims.{places}
use Rattle.settings.specs.declared.quantity_config.Quantities.{Quantities}
use Rattle.source_choice.specs.Choices.{Choices, nothing, opened, subject_at}
use Rattle.source_choice.specs.Notes.{SubjectNotes}
use Rattle.history.specs.Settings.{Settings}
use Rattle.joined_rmc.specs.Kept.{none_yet}
use Rattle.joined_rmc.specs.declared.last_of_row.LastOfRow.{LastOfRow}
use Rattle.gate_model.specs.ChoiceStands.{ChoicesStandFor}
use Rattle.gate_model.specs.ChoiceStandsLaws.{AreTimeouts}
use Rattle.gate_model.proofs.ChoiceMessages.{opening_stands_chosen}
use Rattle.bus_listener.specs.Promises.{IsOpening}
use Rattle.quantities.specs.About.{quantities_count}
use Rattle.quantities.specs.Told.{kind_of}
use Rattle.further_bridge.specs.declared.config.FurtherConfig.{FurtherConfig}
use Rattle.further_bridge.specs.FurtherOut.{further_receiver, quantity_told}
use Rattle.further_bridge.specs.FurtherRule.{FurtherRule, further_rule, no_rule, rule_at, rule_of_quantity}
use Rattle.further_bridge.specs.Kept.{FurtherKept, further_opened}
use Rattle.further_bridge.specs.Promises.{EachStands, IsFurtherOpening}
use Rattle.further_bridge.proofs.Rules.{made_at, timeouts_are}

abbrev pub kept_of : FurtherConfig → List ℕ → SlotMap FastKey → Choices → LastOfRow → FurtherKept
kept_of config sfi slots choices water = record {
  rule = further_rule config.ignored.items config.quantities;
  sfi = sfi;
  slots = slots;
  choices = choices;
  water = water;
  lines = 0;
}

module _ (ignored : ArrayVec Pattern) (q : Quantities) (sfi : List ℕ) (timeout : ℕ) where
  abbrev copied : FurtherConfig
  copied = record { quantities = q; ignored = ignored }

  abbrev no_slots : SlotMap FastKey
  no_slots = record { limit = q.slots; entries = [] }

  nothing_kept : kept_of copied sfi no_slots (opened places (map (λ rule. rule.timeout) (map (rule_of_quantity ignored.items) q.each))) (none_yet timeout)
      ≡ further_opened (further_rule ignored.items q) sfi timeout
  unfolding further_rule
  nothing_kept = refl

  pub opened_as : (config : FurtherConfig) (slots : SlotMap FastKey) (choices : Choices) (water : LastOfRow) → config ≡ record { quantities = q; ignored = ignored }
      → slots ≡ record { limit = q.slots; entries = [] } → choices ≡ opened places (map (λ x. x.timeout_ms) q.each)
      → water ≡ none_yet timeout → kept_of config sfi slots choices water ≡ further_opened (further_rule ignored.items q) sfi timeout
  opened_as config slots choices water config_is slots_are choices_are water_is =
      ap (λ x. kept_of x sfi slots choices water) config_is
      ∙ ap (λ x. kept_of copied sfi x choices water) slots_are
      ∙ ap (λ x. kept_of copied sfi no_slots x water) (choices_are ∙ ap (opened places) (sym (timeouts_are ignored.items q.each)))
      ∙ ap (λ x. kept_of copied sfi no_slots (opened places (map (λ rule. rule.timeout) (map (rule_of_quantity ignored.items) q.each))) x) water_is
      ∙ nothing_kept

  pub rules_count : length q.each ≡ quantities_count → length (further_rule ignored.items q).rules ≡ quantities_count
  unfolding further_rule
  rules_count count = length-map q.each (rule_of_quantity ignored.items) ∙ count

module _ (x : FurtherRule) (count : length x.rules ≡ quantities_count) where
  abbrev timeouts : List ℕ
  timeouts = map (λ rule. rule.timeout) x.rules

  timeouts_count : length timeouts ≡ quantities_count
  timeouts_count = length-map x.rules (λ rule. rule.timeout) ∙ count

  timeout_at : (n : ℕ) → n < quantities_count → subject_at (opened places timeouts) n ≡ nothing places (rule_at x n).timeout
  timeout_at n within =
      let long = timeouts_count in
      made_at (nothing places) timeouts n 0 (nothing 0 0) (omega (arith, within, long))
      ∙ ap (nothing places) (made_at (λ rule. rule.timeout) x.rules n no_rule 0 (omega (arith, within, count)))

  one_timeout : (n : ℕ) → AreTimeouts (λ subject. rule_at x n) ((rule_at x n).timeout ∷ [])
  one_timeout n zero within = refl
  one_timeout n (suc k) within = absurd (omega (arith, within))

  each_opened : (c : Settings) (s : ℕ) → EachStands x (further_receiver x c) s [] (opened places timeouts)
  each_opened c s = record {
    count = length-map timeouts (nothing places) ∙ timeouts_count;
    each = λ n within.
        subst (λ (notes : SubjectNotes). ChoicesStandFor (quantity_told n) (λ subject. rule_at x n) 1 (further_receiver x c) s [] (record { sources = places; subjects = notes ∷ [] }))
        (sym (timeout_at n within))
        (opening_stands_chosen (quantity_told n) (λ subject. rule_at x n) ((rule_at x n).timeout ∷ []) (further_receiver x c) s (one_timeout n));
  }

  pub opening_stands : (sfi : List ℕ) (timeout : ℕ) → IsOpening x.slots (record { limit = x.slots; entries = [] }) → IsFurtherOpening x sfi timeout (further_opened x sfi timeout)
  opening_stands sfi timeout listens = λ c s is lasts. record {
    rule = refl;
    sfi = sym is;
    slots = listens kind_of c s;
    choices = each_opened c s;
    water = record { timeout_is = sym lasts; kept = refl };
    lines = refl;
  }
