use Rattle.std.proofs.Common.{◌≡◌, ℕ, List, ◌∷◌, ◌++◌, [], ap, subst}
use Rattle.gate_events.specs.Emit as emits
use Rattle.capture_text.specs.Emitted.{line_of}
use Rattle.capture_text.specs.Writing.{IsReportLine}
use Rattle.serving.specs.Handing.{Takes}
use Rattle.serving.proofs.handing.write_report.Goals as goal

pub returns : goal.returns
returns g c =
    let m = c.args.moment in
    let r = c.args.report in
    let line : c.write_emit.new.out.items ++ 10 ∷ [] ≡ line_of (record { moment = m; emit = emits.report r }) =
    ap (λ (x : List ℕ). x ++ 10 ∷ []) c.write_emit.ensures.text in (
      subst (λ (x : List ℕ). IsReportLine x) c.write_emit.ensures.text c.write_emit.ensures.report,
      subst (λ (x : List ℕ). Takes (g.K.Sink.taken c.args.out.now) (g.K.Sink.taken c.write_line.new.out) (g.K.Sink.fault_count c.args.out.now)
          (g.K.Sink.fault_count c.write_line.new.out) x c.write_line.result) line c.write_line.ensures,
    )
