-- The turns before this one were taken, and all that they make went out.
use Rattle.serving.specs.Served.{outside}
use Rattle.serving.proofs.Runs.{Progress}
use Rattle.serving.proofs.turns.take_turns.Given as goal

abbrev pub invariant-loop-turn : goal.invariant-loop-turn
invariant-loop-turn g l =
    Progress l.turn l.fn.bridge l.bridge (g.C.Clock.readings l.fn.clock) (g.C.Clock.readings l.clock)
    (outside (g.B.Link.traffic l.fn.bus) (g.E.Link.traffic l.fn.net) (g.K.Sink.taken l.fn.out) (g.K.Sink.fault_count l.fn.out))
    (outside (g.B.Link.traffic l.bus) (g.E.Link.traffic l.net) (g.K.Sink.taken l.out) (g.K.Sink.fault_count l.out))
