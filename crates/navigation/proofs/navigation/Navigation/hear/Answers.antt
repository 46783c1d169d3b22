use Rattle.std.proofs.Common.{◌≤◌, subst, sym}
use Rattle.slot_views.specs.Slots.{SlotMap}
use Rattle.fast_packet.specs.declared.key.FastKey.{FastKey}
use Rattle.bus_listener.specs.Steps.{entry_of}
use Rattle.bus_listener.specs.Promises.{IsListening}
use Rattle.bus_listener.proofs.RoomLemmas.{step_limit}
use Rattle.navigation.specs.Kept.{NavKept, hearing_by}
use Rattle.navigation.specs.Legs.{kind_of}
use Rattle.navigation.proofs.navigation.Navigation.hear.Goals as goal

pub invariant_of-self : goal.invariant_of-self
invariant_of-self c =
    let before = c.self.invariant in
    let stays = step_limit kind_of c.args.gateway.now.addresses c.self.inside.listener (entry_of c.args.event.now) in (
      before.0,
      before.1,
      subst (λ (slots : SlotMap FastKey). slots.limit ≤ 256) (sym c.after.follows.holds-at-none) (subst (λ n. n ≤ 256) (sym stays) before.2),
      before.3,
      before.4,
      before.5,
    )

pub invariant_of-self-in-Some : goal.invariant_of-self-in-Some
invariant_of-self-in-Some c =
    let before = c.self.invariant in
    let stays = step_limit kind_of c.args.gateway.now.addresses c.self.inside.listener (entry_of c.args.event.now) in (
      before.0,
      before.1,
      subst (λ (slots : SlotMap FastKey). slots.limit ≤ 256) (sym c.after.follows.holds-at-none) (subst (λ n. n ≤ 256) (sym stays) before.2),
      before.3,
      before.4,
      before.5,
    )

pub returns-in-None-clause-history : goal.returns-in-None-clause-history
returns-in-None-clause-history c =
    let e = entry_of c.args.event.now in
    subst (λ (k : NavKept). IsListening kind_of c.args.gateway.now e k.slots (hearing_by c.args.gateway.now k e)) c.self.view_is c.after.ensures.history

pub returns-in-Some-clause-history : goal.returns-in-Some-clause-history
returns-in-Some-clause-history c =
    let e = entry_of c.args.event.now in
    subst (λ (k : NavKept). IsListening kind_of c.args.gateway.now e k.slots (hearing_by c.args.gateway.now k e)) c.self.view_is c.after.ensures.history
