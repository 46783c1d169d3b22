use Rattle.std.proofs.Common.{◌≡◌, ◌<◌, ◌∙◌, Ok, All, length-set, get_or, set, take, subst, sym, arith}
use Rattle.std.specs.Prelude.{List, codes}
use Rattle.std.proofs.lemmas.List.Elements.{All-push}
use Rattle.quantities.specs.declared.about.Quantity.TheVariants as quantity
use Rattle.quantities.specs.About.{about_of, number_of, quantities, quantities_count}
use Rattle.config_document.specs.Places.{place_of}
use Rattle.settings.specs.Setup.{IsQuantity}
use Rattle.settings.specs.declared.quantity_config.QuantityConfig.{QuantityConfig}
use Rattle.gate_config.specs.Keys.{quantity_of}
use Rattle.gate_config.specs.Reading.{key_prefix}
use Rattle.gate_config.proofs.Numbers.{all_put, all_read, one_more_put, one_more_read}
use Rattle.gate_config.proofs.further_quantities.each_quantity.Goals as goal

pub loop-each-preserved : goal.loop-each-preserved
loop-each-preserved c =
    let before = c.loop-each.read in
    let i = c.loop-each.each-index in
    let value = c.in_ok-quantity.quantity in
    let kept = c.loop-each.invariant in
    let all : c.all_quantities-each-items.result.now ≡ quantities = c.all_quantities-each-items.ensures.all in
    let within : i < quantities_count = omega (arith, c.loop-each-test.true) in
    let name = (about_of (get_or quantities i quantity.Attitude)).name in
    let named : c.name-name.result.now ≡ name = rw all at c.name-name.ensures.name in
    let talks : c.talker.result ≡ (about_of (get_or quantities i quantity.Attitude)).talker = rw all at c.talker.ensures.talker in
    let prefix : c.as_slice.result.now ≡ key_prefix (codes "further.") name = rw named at (c.as_slice.ensures.value ∙ c.key_prefix-prefix.ensures) in
    let said : Ok value ≡ quantity_of (place_of c.args.table.now) (get_or quantities i quantity.Attitude) = rw (named, talks, prefix) at c.in_ok-quantity.ensures.said in
    let step = one_more_read before i kept.count (quantity_of (place_of c.args.table.now)) quantity.Attitude value within said in
    let more = one_more_put before i kept.count quantity.Attitude value within in
    let put : c.set.new.self ≡ set before (number_of (get_or quantities i quantity.Attitude)) value = rw all at c.set.ensures in
    record {
      all = all;
      count = rw put (length-set before (number_of (get_or quantities i quantity.Attitude)) value ∙ kept.count);
      said = rw put (sym step ∙ kept.said);
      valid = rw (put, more) (All-push IsQuantity (take i before) value kept.valid c.in_ok-quantity.ensures.valid);
    }

pub returns : goal.returns
returns c =
    let done : c.loop-each.each-index ≡ quantities_count = omega (arith, c.loop-each-test.false, c.loop-each.auto.each-index-end) in
    let kept = c.loop-each.invariant in
    record {
      said = sym (all_read c.loop-each.read c.loop-each.each-index kept.count (quantity_of (place_of c.args.table.now)) done) ∙ kept.said;
      valid = subst (λ (each : List QuantityConfig). All IsQuantity each) (all_put c.loop-each.read c.loop-each.each-index kept.count done) kept.valid;
    }
