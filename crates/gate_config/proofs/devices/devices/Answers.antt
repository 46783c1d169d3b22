use Rattle.std.proofs.Common.{refl}
use Rattle.gate_config.proofs.Values.{patterns}
use Rattle.gate_config.proofs.devices.devices.Goals as goal

pub returns-clause-valid : goal.returns-clause-valid
returns-clause-valid c = record {
  each = patterns c.in_ok-devices.devices.items c.in_ok-devices.ensures.valid;
  apart = rw c.as_slice.ensures.value at (c.if-repeats.ensures.apart refl);
}
