-- Each quantity has a number below how many there are, and a message tells of the one subject of each choice.
use Rattle.std.proofs.Common.{ℕ, ◌<◌, Bool, true, false, List, [], ◌∷◌, Some, if◌then◌else◌, arith}
use Rattle.std.specs.Prelude.{IfSome, ◌==◌}
use Rattle.quantities.specs.About.{number_of, quantities_count}
use Rattle.quantities.specs.declared.about.Quantity.{Quantity}
use Rattle.quantities.specs.declared.about.Quantity.TheVariants as quantity
use Rattle.quantities.specs.declared.value.Value.{Value}
use Rattle.gate_model.specs.ChoiceStandsLaws.{TellWithin}
use Rattle.further_bridge.specs.FurtherOut.{number_in, quantity_told, told_among, told_by, values_of}

pub number_within : (q : Quantity) → number_of q < quantities_count
number_within quantity.Attitude = omega arith
number_within _ = omega arith

within : (n : ℕ) (values : List Value) → IfSome (told_among n values) (λ t. t.subject < 1)
within n [] = tt
within n (v ∷ values) = by (number_in v == n) (within n values)
  where
    by : (b : Bool) → IfSome (told_among n values) (λ t. t.subject < 1) → IfSome (if b then Some (told_by v) else told_among n values) (λ t. t.subject < 1)
    by true rest = omega arith
    by false rest = rest

pub tell_within : (n : ℕ) → TellWithin (quantity_told n) 1
tell_within n d = within n (values_of d)
