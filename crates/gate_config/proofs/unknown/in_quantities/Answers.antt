use Rattle.gate_config.specs.Keys.{further, quantity}
use Rattle.gate_config.specs.Unknown.{quantities_noted}
use Rattle.gate_config.proofs.unknown.in_quantities.Goals as goal

pub returns : goal.returns
unfolding quantities_noted further quantity
returns c =
    rw (
      c.in_ok-least.ensures,
      c.as_slice-2.ensures.value,
      c.keys_and_names-known.ensures,
      c.as_slice.ensures.value,
      c.as_slice-3.ensures.value,
      c.quantity_names-names.ensures.names,
      c.all_quantities.ensures.all,
    ) at c.under_each.ensures
