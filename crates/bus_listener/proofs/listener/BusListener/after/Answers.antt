use Rattle.std.proofs.Common.{refl}
use Rattle.gate_core.specs.Steps.{by_keys, entry_of}
use Rattle.bus_listener.proofs.EventLemmas.{is_step}
use Rattle.bus_listener.proofs.RoomLemmas.{step_fits}
use Rattle.bus_listener.proofs.listener.BusListener.after.Goals as goal

pub returns : goal.returns
returns g c =
    let kinds = g.K.Kinds.kinds c.args.kinds.now in (
      (refl, (λ n. tt), c.step.follows.holds-at-none),
      record {
        after = tt;
        emits = c.step.ensures.emits;
        message = c.step.ensures.message;
        room = step_fits by_keys.fast kinds c.args.gateway.now.addresses c.args.self.now (entry_of c.args.event.now) c.count-ordered.ensures.map;
        history = is_step kinds (g.met.K.Kinds.heard c.args.kinds.now) c.args.gateway.now c.args.event.now c.args.self.now;
      },
    )
