-- What became of the frame tells whether it had to be answered, and whether the gateway was ready.
use Rattle.n2k_id.specs.Frame.{bus_frame}
use Rattle.bus_identity.proofs.RequestLemmas.{answer_tells}
use Rattle.bus_identity.proofs.identity.Identity.answer.Goals as goal

pub returns-in-Some-clause-nothing : goal.returns-in-Some-clause-nothing
returns-in-Some-clause-nothing c =
    (answer_tells c.args.own c.args.ready (bus_frame c.args.frame.now) c.is_due.result _ c.unwrap-parts.ensures c.parts.ensures.parts c.held-held.ensures c.is_due.ensures.exactly c.answered_by-answered.ensures).0

pub returns-in-Some-clause-sent : goal.returns-in-Some-clause-sent
returns-in-Some-clause-sent c =
    (answer_tells c.args.own c.args.ready (bus_frame c.args.frame.now) c.is_due.result _ c.unwrap-parts.ensures c.parts.ensures.parts c.held-held.ensures c.is_due.ensures.exactly c.answered_by-answered.ensures).1

pub returns-in-Some-clause-not_ready : goal.returns-in-Some-clause-not_ready
returns-in-Some-clause-not_ready c =
    (answer_tells c.args.own c.args.ready (bus_frame c.args.frame.now) c.is_due.result _ c.unwrap-parts.ensures c.parts.ensures.parts c.held-held.ensures c.is_due.ensures.exactly c.answered_by-answered.ensures).2

pub returns-in_default-clause-nothing : goal.returns-in_default-clause-nothing
returns-in_default-clause-nothing c =
    (answer_tells c.args.own c.args.ready (bus_frame c.args.frame.now) c.is_due.result _ c.unwrap-parts.ensures c.parts.ensures.parts c.held-held.ensures c.is_due.ensures.exactly c.answered_by-answered.ensures).0

pub returns-in_default-clause-sent : goal.returns-in_default-clause-sent
returns-in_default-clause-sent c =
    (answer_tells c.args.own c.args.ready (bus_frame c.args.frame.now) c.is_due.result _ c.unwrap-parts.ensures c.parts.ensures.parts c.held-held.ensures c.is_due.ensures.exactly c.answered_by-answered.ensures).1

pub returns-in_default-clause-not_ready : goal.returns-in_default-clause-not_ready
returns-in_default-clause-not_ready c =
    (answer_tells c.args.own c.args.ready (bus_frame c.args.frame.now) c.is_due.result _ c.unwrap-parts.ensures c.parts.ensures.parts c.held-held.ensures c.is_due.ensures.exactly c.answered_by-answered.ensures).2
