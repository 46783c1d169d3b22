use Rattle.gate_config.specs.Keys.{ais, identity, rmc, texts}
use Rattle.gate_config.specs.Unknown.{parts_noted}
use Rattle.gate_config.proofs.unknown.in_parts.Goals as goal

pub returns : goal.returns
unfolding parts_noted identity texts rmc ais
returns c = rw (c.in_ok-least-2.ensures, c.in_ok-least.ensures) at c.under-3.ensures
