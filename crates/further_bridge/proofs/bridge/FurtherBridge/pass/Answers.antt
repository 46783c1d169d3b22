use Rattle.std.proofs.Common.{◌≤◌, ℕ, Option, length, sym, ap, subst, ◌∙◌, arith}
use Rattle.slot_views.specs.Slots.{SlotMap}
use Rattle.fast_packet.specs.declared.key.FastKey.{FastKey}
use Rattle.quantities.specs.Told.{kind_of}
use Rattle.history.specs.Entries.{Entry}
use Rattle.gate_model.specs.Machine.{Machine}
use Rattle.gate_outbox.specs.Output.{Emitted, and_left}
use Rattle.parts.specs.Picked.{last_picked}
use Rattle.parts.specs.SelectedMessage.{SelectedMessage}
use Rattle.bus_listener.specs.Steps.{entry_of}
use Rattle.bus_listener.specs.Promises.{IsListening}
use Rattle.bus_listener.proofs.RoomLemmas.{step_limit}
use Rattle.further_bridge.specs.FurtherRule.{further_rule}
use Rattle.further_bridge.specs.Kept.{FurtherKept, followed, hearing_by, most_told, step_by}
use Rattle.further_bridge.specs.QuantityKinds.{quantities_are_heard}
use Rattle.further_bridge.proofs.Passing.{has_no_streams, keeps, says_no_second, says_no_third, tells}
use Rattle.further_bridge.proofs.bridge.FurtherBridge.pass.Goals as goal

pub invariant_of-self : goal.invariant_of-self
invariant_of-self c =
    let i = c.self.inside in
    let before = c.self.invariant in
    let is = c.pass.ensures kind_of quantities_are_heard c.requires.none in
    let stays = step_limit kind_of c.args.gateway.now.addresses i.listener (entry_of c.args.event.now) in (
      before.0,
      subst (λ (slots : SlotMap FastKey). slots.limit ≤ 256) (sym is.after_is) (subst (λ (n : ℕ). n ≤ 256) (sym stays) before.1),
      before.2,
      before.3,
      before.4,
      before.5,
    )

pub returns-clause-after : goal.returns-clause-after
returns-clause-after c =
    let g : Machine = c.args.gateway.now in
    let e : Entry = entry_of c.args.event.now in
    let new : Option SelectedMessage = last_picked g c.args.outbox.now in
    let i = c.self.inside in
    let k : FurtherKept = record { rule = further_rule i.config.ignored.items i.config.quantities; sfi = i.sfi; slots = i.listener; choices = i.choice; water = i.water; lines = i.lines } in
    let is = c.pass.ensures kind_of quantities_are_heard c.requires.none in
    c.follow.ensures
    ∙ ap (λ (slots : SlotMap FastKey). followed g new (record k { slots = slots })) is.after_is
    ∙ sym (keeps g k new e c.requires.none)
    ∙ ap (λ (x : FurtherKept). (step_by g new x e).after) c.self.view_is

pub returns-clause-first : goal.returns-clause-first
returns-clause-first c =
    let g : Machine = c.args.gateway.now in
    let e : Entry = entry_of c.args.event.now in
    let new : Option SelectedMessage = last_picked g c.args.outbox.now in
    let emits : Emitted = c.args.emits.now in
    let i = c.self.inside in
    let k : FurtherKept = record { rule = further_rule i.config.ignored.items i.config.quantities; sfi = i.sfi; slots = i.listener; choices = i.choice; water = i.water; lines = i.lines } in
    let is = c.pass.ensures kind_of quantities_are_heard c.requires.none in
    is.left_is
    ∙ sym (tells g k new e c.requires.none most_told emits)
    ∙ ap (λ (x : FurtherKept). and_left most_told emits (step_by g new x e).emits) c.self.view_is

pub returns-clause-second : goal.returns-clause-second
returns-clause-second c =
    says_no_second c.args.gateway.now c.args.self.now (last_picked c.args.gateway.now c.args.outbox.now) (entry_of c.args.event.now) c.requires.none

pub returns-clause-third : goal.returns-clause-third
returns-clause-third c =
    says_no_third c.args.gateway.now c.args.self.now (last_picked c.args.gateway.now c.args.outbox.now) (entry_of c.args.event.now) c.requires.none

pub returns-clause-streams : goal.returns-clause-streams
returns-clause-streams c = has_no_streams c.args.gateway.now c.args.self.now (entry_of c.args.event.now) c.requires.none

pub returns-clause-room : goal.returns-clause-room
returns-clause-room c =
    let is = c.pass.ensures kind_of quantities_are_heard c.requires.none in
    let fits = is.fits in
    let limit = c.self.invariant.1 in
    subst (λ (k : FurtherKept). length (hearing_by c.args.gateway.now k (entry_of c.args.event.now)).told ≤ 258) c.self.view_is (omega (arith, fits, limit))

pub returns-clause-history : goal.returns-clause-history
returns-clause-history c =
    let e = entry_of c.args.event.now in
    let is = c.pass.ensures kind_of quantities_are_heard c.requires.none in
    subst (λ (k : FurtherKept). IsListening kind_of c.args.gateway.now e k.slots (hearing_by c.args.gateway.now k e)) c.self.view_is is.history
