use Rattle.std.proofs.Common.{Bool, [], sym, subst}
use Rattle.serving.specs.Handing.{DoesAll, RunStands}
use Rattle.serving.specs.Served.{outside}
use Rattle.serving.specs.Turns.{tick_behind, with_came}
use Rattle.serving.proofs.Doing.{does_nothing}
use Rattle.serving.proofs.turns.pass_time.Goals as goal

pub returns-then-heard : goal.returns-then-heard
returns-then-heard g c =
    let b = c.args.bridge.now in
    let o = outside (g.B.Link.traffic c.args.bus.now) (g.E.Link.traffic c.args.net.now) (g.K.Sink.taken c.args.out.now) (g.K.Sink.fault_count c.args.out.now) in
    subst (λ (h : Bool). DoesAll RunStands (λ p s. with_came p c.args.moment (tick_behind c.args.moment h) s) [] [] b b o o) (sym c.if-heard.true)
    (does_nothing b o)
