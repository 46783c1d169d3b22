use Rattle.std.proofs.Common.{subst}
use Rattle.history.specs.Entries.{Entry}
use Rattle.gate_events.specs.Event.{view}
use Rattle.bridge.specs.BridgeStands.{IsBridgeStep}
use Rattle.serving.proofs.Entries.{taken}
use Rattle.serving.proofs.EventLines.{recorded_then, same_entry, unrecorded}
use Rattle.serving.proofs.turns.take.Goals as goal

pub returns-in-Err-clause-does : goal.returns-in-Err-clause-does
returns-in-Err-clause-does g c =
    let step = subst (λ (e : Entry). IsBridgeStep e c.args.bridge.now c.take.new.self) (same_entry c.args.event.now) c.take.ensures.step in
    unrecorded (view c.args.event.now) c.args.bridge.now c.take.new.self step _ _
    (c.in-Err.ensures (g.B.Link.traffic c.args.bus.now) (g.E.Link.traffic c.args.net.now))

pub returns-clause-does : goal.returns-clause-does
returns-clause-does g c =
    let e = view c.args.event.now in
    let after = c.take.new.self in
    let step = subst (λ (x : Entry). IsBridgeStep x c.args.bridge.now after) (same_entry c.args.event.now) c.take.ensures.step in
    recorded_then e c.args.bridge.now after step after _ _ _ c.hand_on.result (c.in-Ok.ensures (g.B.Link.traffic c.args.bus.now) (g.E.Link.traffic c.args.net.now))
    (taken e c.args.bridge.now after step c.moment.result c.moment.ensures _ _ c.hand_on.result c.hand_on.ensures)
