-- An event that the gateway has taken: the listener stands for the history with it, and tells and gives what the definition over that history
-- says.
use Rattle.std.proofs.Common.{ℕ, refl, ◌∙◌, append-nil}
use Rattle.gate_events.specs.declared.event.Event.{Event}
use Rattle.gate_events.specs.declared.event.Event.TheVariants as event
use Rattle.n2k_id.specs.Frame.{bus_frame}
use Rattle.slot_views.specs.Slots.{SlotMap}
use Rattle.slot_views.specs.Traces.{unexpired}
use Rattle.fast_packet.specs.declared.key.FastKey.{FastKey}
use Rattle.pgn_profile.specs.declared.kinds.Kind.{Kind}
use Rattle.history.specs.Entries.{now}
use Rattle.gate_model.specs.Machine.{Machine}
use Rattle.gate_model.proofs.FastOthers.{datagrams_leave_fast, ticks_leave_fast}
use Rattle.gate_model.proofs.FastTimes.{time_ends_fast_packets}
use Rattle.gate_model.proofs.KeyOrders.{fast_in_order}
use Rattle.gate_model.proofs.StandsTimes.{joined}
use Rattle.gate_core.specs.Steps.{by_keys, entry_of}
use Rattle.bus_listener.specs.Heard.{listener}
use Rattle.bus_listener.specs.Kept.{entered}
use Rattle.bus_listener.specs.Kinds.{AreHeard}
use Rattle.bus_listener.specs.Promises.{IsListening, step_by}
use Rattle.bus_listener.proofs.KnownLemmas.{gateway_stands}
use Rattle.bus_listener.proofs.StepLemmas.{frame_taken}

pub is_step : (kinds : ℕ → Kind) → AreHeard kinds → (g : Machine) (x : Event) (before : SlotMap FastKey)
    → IsListening kinds g (entry_of x) before (step_by kinds g before (entry_of x))
unfolding entered
is_step kinds are g (event.Frame moment frame) before = λ limit s h settings could gs it.
    let r = listener kinds limit g.settings in
    let t = time_ends_fast_packets by_keys.fast fast_in_order r s h (now h) moment before could.1 it in
    let x = frame_taken kinds are limit g.settings s h moment (bus_frame frame) settings could g.addresses
    (gateway_stands kinds limit g.settings s _ g.addresses gs.addresses) (unexpired moment before) t.stands in
    record { stands = x.stands; told = joined t.told x.told; message = x.message }
is_step kinds are g (event.Datagram moment bytes) before = λ limit s h settings could gs it.
    let r = listener kinds limit g.settings in
    let t = time_ends_fast_packets by_keys.fast fast_in_order r s h (now h) moment before could.1 it in
    record {
      stands = datagrams_leave_fast by_keys.fast r s h moment moment bytes.now _ t.stands;
      told = append-nil _ ∙ t.told;
      message = refl;
    }
is_step kinds are g (event.Tick moment) before = λ limit s h settings could gs it.
    let r = listener kinds limit g.settings in
    let t = time_ends_fast_packets by_keys.fast fast_in_order r s h (now h) moment before could.1 it in
    record {
      stands = ticks_leave_fast by_keys.fast r s h moment moment _ t.stands;
      told = append-nil _ ∙ t.told;
      message = refl;
    }
