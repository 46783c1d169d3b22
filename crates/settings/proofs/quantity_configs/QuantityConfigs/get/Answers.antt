use Rattle.std.proofs.Common.{◌≡◌}
use Rattle.settings.proofs.quantity_configs.QuantityConfigs.get.Goals as goal

pub returns-clause-value : goal.returns-clause-value
returns-clause-value c =
    let read = c.index.ensures in
    let place = c.number.ensures.number in
    let list : c.self.inside.each.items ≡ c.args.self.now = c.self.view_is in cc
