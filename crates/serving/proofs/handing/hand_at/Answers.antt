use Rattle.std.proofs.Common.{List, sym, subst}
use Rattle.gate_outbox.specs.Output.{emit_of}
use Rattle.bridge.specs.Kept.{output_of}
use Rattle.serving.specs.Handing.{Hands}
use Rattle.serving.specs.Served.{outside}
use Rattle.serving.specs.Turns.{Item}
use Rattle.serving.proofs.Doing.{hands_as, hands_none}
use Rattle.serving.proofs.Items.{none_due, one_due}
use Rattle.serving.proofs.handing.hand_at.Goals as goal

pub returns-in-Some : goal.returns-in-Some
returns-in-Some g c =
    let old = outside (g.B.Link.traffic c.args.bus.now) (g.E.Link.traffic c.args.net.now) (g.K.Sink.taken c.args.out.now) (g.K.Sink.fault_count c.args.out.now) in
    let new = outside (g.B.Link.traffic c.hand.new.bus) (g.E.Link.traffic c.hand.new.net) (g.K.Sink.taken c.hand.new.out) (g.K.Sink.fault_count c.hand.new.out) in
    subst (λ (x : List Item). Hands old new x c.hand.result)
    (one_due c.args.moment (output_of c.args.bridge.now) c.args.place (emit_of c.in-Some.emit) (sym c.in-Some.ensures.emit)) c.hand.ensures

pub returns-in-None : goal.returns-in-None
returns-in-None g c =
    hands_as _ _ _ _ (none_due c.args.moment (output_of c.args.bridge.now) c.args.place (sym c.in-None.ensures.emit)) (hands_none _)
