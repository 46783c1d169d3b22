use Rattle.std.proofs.Common.{List, ℕ, ap, refl, subst, take}
use Rattle.std.specs.Prelude.{Some, None, Ok, Err}
use Rattle.report_rules.specs.Rules as rules
use Rattle.gate_events.specs.declared.emit.Detail.TheVariants as detail
use Rattle.gate_outside.specs.declared.link.Arrival.{Arrival}
use Rattle.gate_outside.specs.Link.{Outcome, Receives}
use Rattle.history.specs.Emits.{report_of}
use Rattle.serving.specs.Served.{NetFits}
use Rattle.serving.specs.Turns.{from_net}
use Rattle.serving.proofs.Doing.{does_nothing}
use Rattle.serving.proofs.Items.{net_fits, receives_by_net, report_told}
use Rattle.serving.proofs.Turning.{hears_all, hears_some, reports_all, reports_some}
use Rattle.serving.proofs.turns.hear_net.Goals as goal

pub returns-in-Ok-clause-heard : goal.returns-in-Ok-clause-heard
returns-in-Ok-clause-heard g c =
    let buffer = c.receive.new.buf in
    let o : Outcome = Ok (Some (take c.in-Ok-Bytes.count buffer)) in
    let goes = subst (λ (a : Arrival). Receives buffer (g.E.Link.traffic c.args.net.now) (g.E.Link.traffic c.receive.new.self) (Ok a)) c.in-Ok-Bytes.field-0-is c.in-Ok-Bytes.ensures.told in
    let fits : NetFits o = net_fits c.in-Ok-Bytes.count buffer c.receive.array_long c.front-bytes.ensures.bytes in
    let same = ap (λ (x : List ℕ). from_net c.args.moment (Ok (Some x))) c.front-bytes.ensures.front in
    (o, fits, hears_all c.args.moment same (receives_by_net o goes) refl c.in-Ok.ensures.does)

pub returns-in-Err-take-clause-heard : goal.returns-in-Err-take-clause-heard
returns-in-Err-take-clause-heard g c =
    let buffer = c.receive.new.buf in
    let o : Outcome = Ok (Some (take c.in-Ok-Bytes.count buffer)) in
    let goes = subst (λ (a : Arrival). Receives buffer (g.E.Link.traffic c.args.net.now) (g.E.Link.traffic c.receive.new.self) (Ok a)) c.in-Ok-Bytes.field-0-is c.in-Ok-Bytes.ensures.told in
    let fits : NetFits o = net_fits c.in-Ok-Bytes.count buffer c.receive.array_long c.front-bytes.ensures.bytes in
    let same = ap (λ (x : List ℕ). from_net c.args.moment (Ok (Some x))) c.front-bytes.ensures.front in
    (o, fits, hears_some c.args.moment same (receives_by_net o goes) c.in-Err-take.ensures.does)

pub returns-in-Ok-Nothing-clause-heard : goal.returns-in-Ok-Nothing-clause-heard
returns-in-Ok-Nothing-clause-heard g c =
    let o : Outcome = Ok None in
    let goes = subst (λ (a : Arrival). Receives c.receive.new.buf (g.E.Link.traffic c.args.net.now) (g.E.Link.traffic c.receive.new.self) (Ok a)) c.in-Ok-Nothing.field-0-is c.in-Ok-Nothing.ensures.told in
    (o, tt, hears_all c.args.moment {came = from_net c.args.moment o} refl (receives_by_net o goes) refl (does_nothing _ _))

pub returns-in-Ok-write_report-clause-heard : goal.returns-in-Ok-write_report-clause-heard
returns-in-Ok-write_report-clause-heard g c =
    let o : Outcome = Err c.in-Err.field-0 in
    let written = report_told c.args.moment (report_of rules.receive_failed detail.Net) _ _ _ _ _ _ (Ok c.in-Ok-write_report.field-0) c.in-Ok-write_report.ensures in
    (o, tt, hears_all c.args.moment {came = from_net c.args.moment o} refl (receives_by_net o c.in-Err.ensures.told) refl (reports_all written))

pub returns-in-Err-write_report-clause-heard : goal.returns-in-Err-write_report-clause-heard
returns-in-Err-write_report-clause-heard g c =
    let o : Outcome = Err c.in-Err.field-0 in
    let written = report_told c.args.moment (report_of rules.receive_failed detail.Net) _ _ _ _ _ _ (Err c.in-Err-write_report.field-0) c.in-Err-write_report.ensures in
    (o, tt, hears_some c.args.moment {came = from_net c.args.moment o} refl (receives_by_net o c.in-Err.ensures.told) (reports_some written))
