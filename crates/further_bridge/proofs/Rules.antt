-- How a quantity is taken and said stands at its number.
use Rattle.std.proofs.Common.{◌≡◌, ℕ, zero, suc, ◌<◌, List, [], ◌∷◌, length, map, refl, sym, ap, arith}
use Rattle.std.specs.Prelude.{slice_index_or}
use Rattle.n2k_id.specs.declared.pattern.Pattern.{Pattern}
use Rattle.settings.specs.declared.quantity_config.Quantities.{Quantities}
use Rattle.settings.specs.declared.quantity_config.QuantityConfig.{QuantityConfig}
use Rattle.source_choice.specs.SubjectRules.{rank_of}
use Rattle.further_bridge.specs.FurtherRule.{further_rule, no_rule, rule_at, rule_of_quantity, talker_at}

-- what is made of each item of a list stands where the item does
pub made_at : {X Y : Type 0} (f : X → Y) (xs : List X) (n : ℕ) (d : X) (z : Y) → n < length xs → slice_index_or (map f xs) n z ≡ f (slice_index_or xs n d)
made_at f [] n d z within = absurd (omega (arith, within))
made_at f (x ∷ xs) zero d z within = refl
made_at f (x ∷ xs) (suc n) d z within = made_at f xs n d z (omega (arith, within))

pub rules_are_by_number : (ignored : List Pattern) (q : Quantities) (n : ℕ) (d : QuantityConfig) → n < length q.each
    → rule_of_quantity ignored (slice_index_or q.each n d) ≡ rule_at (further_rule ignored q) n
unfolding further_rule
rules_are_by_number ignored q n d within = sym (made_at (rule_of_quantity ignored) q.each n d no_rule within)

pub talkers_are_by_number : (ignored : List Pattern) (q : Quantities) (n : ℕ) (d : QuantityConfig) → n < length q.each
    → (slice_index_or q.each n d).talker ≡ talker_at (further_rule ignored q) n
unfolding further_rule
talkers_are_by_number ignored q n d within = sym (made_at (λ x. x.talker) q.each n d [] within)

pub rank_is : (ignored : List Pattern) (q : Quantities) (n name : ℕ) (x : QuantityConfig) → rule_of_quantity ignored x ≡ rule_at (further_rule ignored q) n
    → rank_of (record { sources = x.sources.items; others = x.others; ignored = ignored; timeout = 0 }) name ≡ rank_of (rule_at (further_rule ignored q) n) name
rank_is ignored q n name x is = ap (λ rule. rank_of rule name) is

-- ---- the timeouts

pub timeouts_are : (ignored : List Pattern) (each : List QuantityConfig)
    → map (λ rule. rule.timeout) (map (rule_of_quantity ignored) each) ≡ map (λ q. q.timeout_ms) each
timeouts_are ignored [] = refl
timeouts_are ignored (q ∷ each) = ap (λ (ts : List ℕ). q.timeout_ms ∷ ts) (timeouts_are ignored each)
