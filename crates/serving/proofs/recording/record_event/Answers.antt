use Rattle.std.proofs.Common.{Bool, List, ℕ, ◌++◌, [], ◌∷◌, sym, subst, ◌∙◌}
use Rattle.gate_events.specs.Event.{view}
use Rattle.serving.specs.Handing.{Hands, HandsAll, Takes}
use Rattle.serving.specs.Served.{outside}
use Rattle.serving.specs.Turns.{event_line, recorded_where}
use Rattle.serving.proofs.Doing.{hands_none}
use Rattle.serving.proofs.Items.{line_recorded}
use Rattle.serving.proofs.recording.record_event.Goals as goal

pub returns-then-is_recorded : goal.returns-then-is_recorded
returns-then-is_recorded g c = λ bus net.
    let told = g.K.Sink.taken c.args.out.now in
    let told' = g.K.Sink.taken c.write_line.new.out in
    let faults = g.K.Sink.fault_count c.args.out.now in
    let faults' = g.K.Sink.fault_count c.write_line.new.out in
    let line = event_line (view c.args.event.now) in
    subst (λ (b : Bool). Hands (outside bus net told faults) (outside bus net told' faults') (recorded_where b line) c.write_line.result)
    (sym c.if-is_recorded.true ∙ c.is_recorded.ensures)
    (line_recorded line bus net told told' faults faults' c.write_line.result
    (subst (λ (l : List ℕ). Takes told told' faults faults' (l ++ 10 ∷ []) c.write_line.result) c.event_line.ensures.line c.write_line.ensures))

pub returns-else-is_recorded : goal.returns-else-is_recorded
returns-else-is_recorded g c = λ bus net.
    let o = outside bus net (g.K.Sink.taken c.args.out.now) (g.K.Sink.fault_count c.args.out.now) in
    subst (λ (b : Bool). HandsAll o o (recorded_where b (event_line (view c.args.event.now)))) (sym c.if-is_recorded.false ∙ c.is_recorded.ensures) (hands_none o)
