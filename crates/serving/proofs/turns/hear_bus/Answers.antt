use Rattle.std.proofs.Common.{refl, sym, ap, ◌∙◌}
use Rattle.std.specs.Prelude.{Option, Ok, Err}
use Rattle.n2k_id.specs.declared.frame.Frame.{Frame}
use Rattle.serving.specs.Handing.{frame_came}
use Rattle.serving.proofs.Doing.{does_nothing}
use Rattle.serving.proofs.Items.{receives_by_bus, report_told}
use Rattle.serving.proofs.Turning.{hears_all, hears_some, reports_all, reports_some}
use Rattle.serving.proofs.turns.hear_bus.Goals as goal

pub returns-in-Ok-clause-heard : goal.returns-in-Ok-clause-heard
returns-in-Ok-clause-heard g c =
    let k = c.in-Ok-Some.ensures.came in
    let same = sym (ap (λ (f : Option Frame). frame_came c.args.moment (Ok f)) c.in-Ok-Some.field-0-is) ∙ k.2 c.args.moment in
    (k.0, hears_all c.args.moment same (receives_by_bus k.0 k.1) refl c.in-Ok.ensures.does)

pub returns-in-Err-take-clause-heard : goal.returns-in-Err-take-clause-heard
returns-in-Err-take-clause-heard g c =
    let k = c.in-Ok-Some.ensures.came in
    let same = sym (ap (λ (f : Option Frame). frame_came c.args.moment (Ok f)) c.in-Ok-Some.field-0-is) ∙ k.2 c.args.moment in
    (k.0, hears_some c.args.moment same (receives_by_bus k.0 k.1) c.in-Err-take.ensures.does)

pub returns-in-Ok-None-clause-heard : goal.returns-in-Ok-None-clause-heard
returns-in-Ok-None-clause-heard g c =
    let k = c.in-Ok-None.ensures.came in
    let same = sym (ap (λ (f : Option Frame). frame_came c.args.moment (Ok f)) c.in-Ok-None.field-0-is) ∙ k.2 c.args.moment in
    (k.0, hears_all c.args.moment same (receives_by_bus k.0 k.1) refl (does_nothing _ _))

pub returns-in-Ok-write_report-clause-heard : goal.returns-in-Ok-write_report-clause-heard
returns-in-Ok-write_report-clause-heard g c =
    let k = c.in-Err.ensures.came in
    let written = report_told c.args.moment c.in-Err.report _ _ _ _ _ _ (Ok c.in-Ok-write_report.field-0) c.in-Ok-write_report.ensures in
    (k.0, hears_all c.args.moment (k.2 c.args.moment) (receives_by_bus k.0 k.1) refl (reports_all written))

pub returns-in-Err-write_report-clause-heard : goal.returns-in-Err-write_report-clause-heard
returns-in-Err-write_report-clause-heard g c =
    let k = c.in-Err.ensures.came in
    let written = report_told c.args.moment c.in-Err.report _ _ _ _ _ _ (Err c.in-Err-write_report.field-0) c.in-Err-write_report.ensures in
    (k.0, hears_some c.args.moment (k.2 c.args.moment) (receives_by_bus k.0 k.1) (reports_some written))
