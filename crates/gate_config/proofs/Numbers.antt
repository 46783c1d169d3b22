-- How quantities are taken and said is read one after another, and put at their numbers.
use Rattle.std.proofs.Common.{◌≡◌, ℕ, ◌+◌, ◌<◌, List, [], ◌∷◌, ◌++◌, length, get_or, take, drop, map, set, Ok, refl, sym, ap, ◌∙◌, arith}
use Rattle.std.specs.Prelude.{Result}
use Rattle.std.specs.List.{range_with_len}
use Rattle.std.proofs.lemmas.List.{drop_all, get_or-map, take_all, take_more_set}
use Rattle.std.proofs.lemmas.List.FromFn.{get_or-range_with_len}
use Rattle.quantities.specs.About.{number_of, quantities, quantities_count}
use Rattle.quantities.specs.declared.about.Quantity.{Quantity}
use Rattle.config_document.specs.declared.fault.ConfigFault.{ConfigFault}
use Rattle.settings.specs.declared.quantity_config.QuantityConfig.{QuantityConfig}
use Rattle.gate_config.specs.Reading.{each_from}
use Rattle.gate_config.proofs.Each.{one_more}

numbers : map number_of quantities ≡ range_with_len 0 quantities_count
unfolding quantities
numbers = refl

count : length quantities ≡ quantities_count
unfolding quantities
count = refl

number_at : (i : ℕ) (d : Quantity) → i < quantities_count → number_of (get_or quantities i d) ≡ i
number_at i d within =
    let place : get_or (range_with_len 0 quantities_count) i 0 ≡ i = omega (arith, get_or-range_with_len 0 quantities_count i 0 within) in
    sym (get_or-map number_of quantities i d 0 (omega (arith, count))) ∙ (ap (λ (ns : List ℕ). get_or ns i 0) numbers ∙ place)

module _ (configs : List QuantityConfig) (i : ℕ) (long : length configs ≡ quantities_count) where
  pub one_more_put : (d : Quantity) (value : QuantityConfig) → i < quantities_count
      → take (i + 1) (set configs (number_of (get_or quantities i d)) value) ≡ take i configs ++ value ∷ []
  one_more_put d value within =
      ap (λ n. take (i + 1) (set configs n value)) (number_at i d within) ∙ take_more_set configs i value (omega (arith, long))

  pub one_more_read : (read : Quantity → Result QuantityConfig ConfigFault) (d : Quantity) (value : QuantityConfig) → i < quantities_count
      → Ok value ≡ read (get_or quantities i d)
      → each_from read (take i configs) (drop i quantities)
      ≡ each_from read (take (i + 1) (set configs (number_of (get_or quantities i d)) value)) (drop (i + 1) quantities)
  one_more_read read d value within is =
      one_more read (take i configs) quantities i d value (omega (arith, count)) is
      ∙ ap (λ earlier. each_from read earlier (drop (i + 1) quantities)) (sym (one_more_put d value within))

  pub all_put : i ≡ quantities_count → take i configs ≡ configs
  all_put is = take_all i configs (omega (arith, long))

  pub all_read : (read : Quantity → Result QuantityConfig ConfigFault) → i ≡ quantities_count → each_from read (take i configs) (drop i quantities) ≡ Ok configs
  all_read read is =
      ap (λ left. each_from read (take i configs) left) (drop_all i quantities (omega (arith, count))) ∙ ap Ok (all_put is)
