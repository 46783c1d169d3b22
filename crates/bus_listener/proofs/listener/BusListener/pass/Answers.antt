use Rattle.std.proofs.Common.{◌≡◌, ℕ, List, ◌++◌, sym, ap, ◌∙◌}
use Rattle.slot_views.specs.Slots.{SlotMap}
use Rattle.slot_views.specs.Traces.{unexpired}
use Rattle.fast_packet.specs.declared.key.FastKey.{FastKey}
use Rattle.gate_events.specs.Emit.{Emit}
use Rattle.history.specs.Entries.{Entry, moment_of}
use Rattle.gate_model.specs.Addresses.{AddressesKept}
use Rattle.gate_model.specs.Endings.{fast_overdue}
use Rattle.gate_outbox.specs.Output.{Emitted, and_told}
use Rattle.gate_outbox.proofs.Telling.{told_more}
use Rattle.gate_core.specs.Steps.{by_keys, entry_of}
use Rattle.bus_listener.specs.Kept.{Hearing, unheard}
use Rattle.bus_listener.proofs.EventLemmas.{is_step}
use Rattle.bus_listener.proofs.RoomLemmas.{step_fits}
use Rattle.bus_listener.proofs.Unheard.{completes_nothing, passes}
use Rattle.bus_listener.proofs.listener.BusListener.pass.Goals as goal

pub returns : goal.returns
returns g c = λ kinds heard never.
    let e : Entry = entry_of c.args.event.now in
    let m : ℕ = moment_of e in
    let addresses : AddressesKept = c.args.gateway.now.addresses in
    let before : SlotMap FastKey = c.args.self.now in
    let inside : SlotMap FastKey = c.self.inside.slots in
    let emits : Emitted = c.args.emits.now in
    let room = g.row.ROOM in
    let overdue : List Emit = fast_overdue before m in
    let rest : SlotMap FastKey = unexpired m before in
    let fast : c.end_overdue.new.fast ≡ rest =
    c.end_overdue.ensures.fast ∙ ap (λ (t : ℕ). unexpired t inside) c.moment_of.ensures ∙ ap (unexpired m) c.self.view_is in
    let told : c.end_overdue.new.out ≡ and_told room emits overdue =
    c.end_overdue.ensures.emits ∙ ap (λ (t : ℕ). and_told room emits (fast_overdue inside t)) c.moment_of.ensures
    ∙ ap (λ (slots : SlotMap FastKey). and_told room emits (fast_overdue slots m)) c.self.view_is in
    let is = passes by_keys.fast kinds addresses rest e never in
    record {
      after_is = c.leave.ensures.after ∙ ap (λ (slots : SlotMap FastKey). (unheard addresses slots e).slots) fast ∙ ap (λ (x : Hearing). x.slots) (sym is);
      left_is =
          c.leave.ensures.emits
          ∙ ap (λ (x : Emitted). and_told room x (unheard addresses c.end_overdue.new.fast e).told) told
          ∙ ap (λ (slots : SlotMap FastKey). and_told room (and_told room emits overdue) (unheard addresses slots e).told) fast
          ∙ told_more room emits overdue (unheard addresses rest e).told
          ∙ ap (λ (x : Hearing). and_told room emits (overdue ++ x.told)) (sym is);
      completes = completes_nothing by_keys.fast kinds addresses rest e never;
      fits = step_fits by_keys.fast kinds addresses before e c.count-ordered.ensures.map;
      history = is_step kinds heard c.args.gateway.now c.args.event.now before;
    }
