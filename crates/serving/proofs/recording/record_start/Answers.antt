use Rattle.std.proofs.Common.{Bool, List, ℕ, ◌++◌, [], ◌∷◌, sym, subst, ◌∙◌}
use Rattle.serving.specs.Handing.{Hands, HandsAll, Takes}
use Rattle.serving.specs.Served.{outside}
use Rattle.serving.specs.Turns.{recorded_where, start_line}
use Rattle.serving.proofs.Doing.{hands_none}
use Rattle.serving.proofs.Items.{line_recorded}
use Rattle.serving.proofs.recording.record_start.Goals as goal

pub returns-then-records : goal.returns-then-records
returns-then-records g c = λ bus net.
    let told = g.K.Sink.taken c.args.out.now in
    let told' = g.K.Sink.taken c.write_line.new.out in
    let faults = g.K.Sink.fault_count c.args.out.now in
    let faults' = g.K.Sink.fault_count c.write_line.new.out in
    let line = start_line c.args.moment in
    subst (λ (b : Bool). Hands (outside bus net told faults) (outside bus net told' faults') (recorded_where b line) c.write_line.result)
    (sym c.if-records.true ∙ c.records.ensures)
    (line_recorded line bus net told told' faults faults' c.write_line.result
    (subst (λ (l : List ℕ). Takes told told' faults faults' (l ++ 10 ∷ []) c.write_line.result) c.start_line.ensures c.write_line.ensures))

pub returns-else-records : goal.returns-else-records
returns-else-records g c = λ bus net.
    let o = outside bus net (g.K.Sink.taken c.args.out.now) (g.K.Sink.fault_count c.args.out.now) in
    subst (λ (b : Bool). HandsAll o o (recorded_where b (start_line c.args.moment))) (sym c.if-records.false ∙ c.records.ensures) (hands_none o)
