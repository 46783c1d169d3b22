use Rattle.std.proofs.Common.{◌∙◌}
use Rattle.quantities.specs.About.{number_of}
use Rattle.further_bridge.proofs.Rules.{rank_is}
use Rattle.further_bridge.proofs.config.FurtherConfig.rank.Goals as goal

pub returns : goal.returns
returns c =
    (rw (c.deref.ensures.0, c.deref-2.ensures.0) at c.rank_of.ensures) ∙ rank_is c.args.self.now.ignored.items c.args.self.now.quantities (number_of c.args.quantity) c.args.name.0 c.quantity-taken.result.now c.quantity-taken.ensures.rule
