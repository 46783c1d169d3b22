use Rattle.std.proofs.Common.{ℕ, ◌+◌, subst, arith}
use Rattle.serving.specs.Handing.{TurnsAll, TurnsSome}
use Rattle.serving.specs.Served.{outside}
use Rattle.serving.proofs.Runs.{progress_breaks, progress_ends, progress_more, progress_none}
use Rattle.serving.proofs.turns.take_turns.Goals as goal

pub loop-turn-init : goal.loop-turn-init
loop-turn-init g c = progress_none c.args.bridge.now _ _

pub loop-turn-preserved : goal.loop-turn-preserved
loop-turn-preserved g c =
    let old = outside (g.B.Link.traffic c.args.bus.now) (g.E.Link.traffic c.args.net.now) (g.K.Sink.taken c.args.out.now) (g.K.Sink.fault_count c.args.out.now) in
    let between = outside (g.B.Link.traffic c.loop-turn.bus) (g.E.Link.traffic c.loop-turn.net) (g.K.Sink.taken c.loop-turn.out) (g.K.Sink.fault_count c.loop-turn.out) in
    let new = outside (g.B.Link.traffic c.take_turn.new.bus) (g.E.Link.traffic c.take_turn.new.net) (g.K.Sink.taken c.take_turn.new.out)
    (g.K.Sink.fault_count c.take_turn.new.out) in
    progress_more c.loop-turn.turn c.args.bridge.now c.loop-turn.bridge (g.C.Clock.readings c.args.clock.now) (g.C.Clock.readings c.loop-turn.clock)
    (g.C.Clock.readings c.take_turn.new.clock) old between new c.loop-turn.invariant c.take_turn.new.bridge
    (subst (λ (k : ℕ). TurnsAll (k + 1) c.loop-turn.bridge c.take_turn.new.bridge (g.C.Clock.readings c.loop-turn.clock) (g.C.Clock.readings c.take_turn.new.clock) between new)
    c.from.ensures c.in-Ok.ensures)

pub returns-in-Err-clause-ends : goal.returns-in-Err-clause-ends
returns-in-Err-clause-ends g c =
    let old = outside (g.B.Link.traffic c.args.bus.now) (g.E.Link.traffic c.args.net.now) (g.K.Sink.taken c.args.out.now) (g.K.Sink.fault_count c.args.out.now) in
    let between = outside (g.B.Link.traffic c.loop-turn.bus) (g.E.Link.traffic c.loop-turn.net) (g.K.Sink.taken c.loop-turn.out) (g.K.Sink.fault_count c.loop-turn.out) in
    let new = outside (g.B.Link.traffic c.take_turn.new.bus) (g.E.Link.traffic c.take_turn.new.net) (g.K.Sink.taken c.take_turn.new.out)
    (g.K.Sink.fault_count c.take_turn.new.out) in
    progress_breaks c.loop-turn.turn c.args.bridge.now c.loop-turn.bridge (g.C.Clock.readings c.args.clock.now) (g.C.Clock.readings c.loop-turn.clock)
    (g.C.Clock.readings c.take_turn.new.clock) old between new c.loop-turn.invariant c.args.turns (omega arith)
    (subst (λ (k : ℕ). TurnsSome (k + 1) c.loop-turn.bridge (g.C.Clock.readings c.loop-turn.clock) (g.C.Clock.readings c.take_turn.new.clock) between new)
    c.from.ensures c.in-Err.ensures)

pub returns-clause-ends : goal.returns-clause-ends
returns-clause-ends g c =
    progress_ends c.args.turns c.loop-turn.turn c.args.bridge.now c.loop-turn.bridge _ _ _ _ (omega arith) c.loop-turn.invariant
