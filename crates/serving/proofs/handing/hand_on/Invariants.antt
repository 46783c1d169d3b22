-- The items in front of the place went out whole.
use Rattle.bridge.specs.Kept.{output_of}
use Rattle.history.specs.Emits.{at}
use Rattle.serving.specs.Served.{outside}
use Rattle.serving.specs.Turns.{all_made}
use Rattle.serving.proofs.Doing.{Partly}
use Rattle.serving.proofs.Items.{due_at}
use Rattle.serving.proofs.handing.hand_on.Given as goal

abbrev pub invariant-loop-place : goal.invariant-loop-place
invariant-loop-place g l =
    Partly (outside (g.B.Link.traffic l.fn.bus) (g.E.Link.traffic l.fn.net) (g.K.Sink.taken l.fn.out) (g.K.Sink.fault_count l.fn.out))
    (outside (g.B.Link.traffic l.bus) (g.E.Link.traffic l.net) (g.K.Sink.taken l.out) (g.K.Sink.fault_count l.out))
    (all_made (at l.fn.moment (output_of l.fn.bridge))) (due_at l.fn.moment l.place (output_of l.fn.bridge))
