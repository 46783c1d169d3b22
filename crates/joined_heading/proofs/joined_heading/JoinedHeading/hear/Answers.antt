use Rattle.std.proofs.Common.{◌≡◌, subst, sym, ◌∙◌}
use Rattle.slot_views.specs.Slots.{SlotMap}
use Rattle.fast_packet.specs.declared.key.FastKey.{FastKey}
use Rattle.bus_listener.specs.Steps.{entry_of}
use Rattle.bus_listener.specs.Promises.{IsListening}
use Rattle.bus_listener.proofs.RoomLemmas.{step_limit}
use Rattle.joined_heading.specs.Kept.{HeadingKept, hearing_by}
use Rattle.joined_heading.specs.Variations.{kind_of}
use Rattle.joined_heading.proofs.joined_heading.JoinedHeading.hear.Goals as goal

pub invariant_of-self : goal.invariant_of-self
invariant_of-self c =
    let before = c.self.invariant in
    let stays = step_limit kind_of c.args.gateway.now.addresses c.self.inside.listener (entry_of c.args.event.now) in (
      before.0,
      subst (λ (slots : SlotMap FastKey). slots.limit ≡ 0) (sym c.after.follows.holds-at-none) (stays ∙ before.1),
      before.2,
      before.3,
      before.4,
      before.5,
      before.6,
    )

pub invariant_of-self-in-Some : goal.invariant_of-self-in-Some
invariant_of-self-in-Some c =
    let before = c.self.invariant in
    let stays = step_limit kind_of c.args.gateway.now.addresses c.self.inside.listener (entry_of c.args.event.now) in (
      before.0,
      subst (λ (slots : SlotMap FastKey). slots.limit ≡ 0) (sym c.after.follows.holds-at-none) (stays ∙ before.1),
      before.2,
      before.3,
      before.4,
      before.5,
      before.6,
    )

pub returns-in-None-clause-history : goal.returns-in-None-clause-history
returns-in-None-clause-history c =
    let e = entry_of c.args.event.now in
    subst (λ (k : HeadingKept). IsListening kind_of c.args.gateway.now e k.slots (hearing_by c.args.gateway.now k e)) c.self.view_is c.after.ensures.history

pub returns-in-Some-clause-history : goal.returns-in-Some-clause-history
returns-in-Some-clause-history c =
    let e = entry_of c.args.event.now in
    subst (λ (k : HeadingKept). IsListening kind_of c.args.gateway.now e k.slots (hearing_by c.args.gateway.now k e)) c.self.view_is c.after.ensures.history
