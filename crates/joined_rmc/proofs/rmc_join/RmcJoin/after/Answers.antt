use Rattle.std.proofs.Common.{ap, ◌∙◌}
use Rattle.gate_model.specs.AddressStands.{name_held}
use Rattle.gate_core.proofs.Picks.{last_is_picked}
use Rattle.parts.specs.Picked.{last_picked}
use Rattle.joined_rmc.specs.Kept.{bytes_in, join_says, join_with, with_says}
use Rattle.joined_rmc.proofs.Steps.{joins}
use Rattle.joined_rmc.proofs.rmc_join.RmcJoin.after.Goals as goal

pub returns : goal.returns
returns c =
    let g = c.args.gateway.now in
    let before = c.args.self.now in
    let new = last_picked g c.args.emits.now in
    let moment = c.moment-moment.result in
    record {
      history =
          joins g c.args.emits.now new before c.take.new.self c.take.result c.take.new.packet.items (last_is_picked g c.args.emits.now)
          (c.take.ensures.after ∙ ap (λ j. join_with new j) c.forget_lost.ensures) c.take.ensures.says
          (c.take.ensures.packet ∙ ap (λ j. bytes_in (with_says moment new j)) c.forget_lost.ensures
          ∙ ap (λ m. bytes_in (join_says m (name_held g.addresses.claims.holders) new before)) c.moment-moment.ensures.moment);
    }
