use Rattle.std.proofs.Common.{rules}
use Rattle.settings.proofs.quantity_config.QuantityConfigDefault.default.Goals as goal

pub returns : goal.returns
returns c = search rules
