use Rattle.std.proofs.Common.{subst}
use Rattle.slot_views.specs.Slots.{SlotMap}
use Rattle.fast_packet.specs.declared.key.FastKey.{FastKey}
use Rattle.bus_listener.specs.Promises.{IsOpening}
use Rattle.navigation.specs.NavRule.{NavRule, nav_rule}
use Rattle.navigation.proofs.Opening.{opening_stands}
use Rattle.navigation.proofs.navigation.Navigation.new.Goals as goal

pub returns-clause-history : goal.returns-clause-history
returns-clause-history c =
    let x : NavRule = nav_rule c.args.ignored.now.items c.args.config.now in
    let opens = subst (λ (slots : SlotMap FastKey). IsOpening c.args.config.now.slots slots) c.in_ok-listener.ensures.value c.in_ok-listener.ensures.history in
    let stands = opening_stands x c.args.sfi opens in
    λ there s speaks. rw (c.in_ok-config.ensures, c.in_ok-ignored.ensures, c.in_ok-listener.ensures.value, c.in_ok-choice.ensures, c.in_ok-courses.ensures) (stands there s speaks)
