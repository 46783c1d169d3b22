use Rattle.std.proofs.Common.{sym, ◌∙◌}
use Rattle.serving.proofs.Turning.{opens_new, opens_started, opens_unrecorded}
use Rattle.serving.proofs.turns.open.Goals as goal

pub returns-then-started-clause-does : goal.returns-then-started-clause-does
returns-then-started-clause-does g c = opens_started c.args.moment c.args.bridge.now _ (sym c.started.ensures ∙ c.if-started.true)

pub returns-in-Err-clause-does : goal.returns-in-Err-clause-does
returns-in-Err-clause-does g c =
    opens_unrecorded c.args.moment c.args.bridge.now c.start.new.self (sym c.started.ensures ∙ c.if-started.false) c.start.ensures.start _ _
    (c.in-Err.ensures (g.B.Link.traffic c.args.bus.now) (g.E.Link.traffic c.args.net.now))

pub returns-clause-does : goal.returns-clause-does
returns-clause-does g c =
    opens_new c.args.moment c.args.bridge.now c.start.new.self (sym c.started.ensures ∙ c.if-started.false) c.start.ensures.start _ _ _ c.hand_on.result
    (c.in-Ok.ensures (g.B.Link.traffic c.args.bus.now) (g.E.Link.traffic c.args.net.now)) c.hand_on.ensures
