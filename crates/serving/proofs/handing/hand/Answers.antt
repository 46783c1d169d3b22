use Rattle.std.proofs.Common.{sym, subst}
use Rattle.n2k_id.specs.Frame.{bus_frame}
use Rattle.gate_events.specs.declared.emit.Emit.{Emit}
use Rattle.gate_events.specs.declared.emit.Report.{Report}
use Rattle.gate_outbox.specs.Output.{emit_of}
use Rattle.serving.specs.Handing.{Hands, HandsAll, WritesReport}
use Rattle.serving.specs.Served.{outside}
use Rattle.serving.proofs.Items.{datagram_failed, datagram_sent, due_now, frame_failed, frame_sent, report_written}
use Rattle.serving.proofs.handing.hand.Goals as goal

pub returns-in-Ok : goal.returns-in-Ok
returns-in-Ok g c =
    let b = g.B.Link.traffic c.args.bus.now in
    let b' = g.B.Link.traffic c.send_frame.new.bus in
    let n = g.E.Link.traffic c.args.net.now in
    let told = g.K.Sink.taken c.args.out.now in
    let faults = g.K.Sink.fault_count c.args.out.now in
    subst (λ (e : Emit). HandsAll (outside b n told faults) (outside b' n told faults) (due_now c.args.moment (emit_of e))) (sym c.in-Can.is)
    (frame_sent c.args.moment (bus_frame c.in-Can.frame) b b' n told faults c.in-Ok.ensures)

pub returns-in-Err : goal.returns-in-Err
returns-in-Err g c =
    let m = c.args.moment in
    let b = g.B.Link.traffic c.args.bus.now in
    let b' = g.B.Link.traffic c.send_frame.new.bus in
    let n = g.E.Link.traffic c.args.net.now in
    let told = g.K.Sink.taken c.args.out.now in
    let told' = g.K.Sink.taken c.write_report.new.out in
    let faults = g.K.Sink.fault_count c.args.out.now in
    let faults' = g.K.Sink.fault_count c.write_report.new.out in
    let result = c.write_report.result in
    subst (λ (e : Emit). Hands (outside b n told faults) (outside b' n told' faults') (due_now m (emit_of e)) result) (sym c.in-Can.is)
    (frame_failed m (bus_frame c.in-Can.frame) b b' n told told' faults faults' result c.in-Err.ensures
    (subst (λ (r : Report). WritesReport m r told told' faults faults' result) c.unsent.ensures
    c.write_report.ensures))

pub returns-in-Ok-send : goal.returns-in-Ok-send
returns-in-Ok-send g c =
    let b = g.B.Link.traffic c.args.bus.now in
    let n = g.E.Link.traffic c.args.net.now in
    let n' = g.E.Link.traffic c.send.new.self in
    let told = g.K.Sink.taken c.args.out.now in
    let faults = g.K.Sink.fault_count c.args.out.now in
    subst (λ (e : Emit). HandsAll (outside b n told faults) (outside b n' told faults) (due_now c.args.moment (emit_of e))) (sym c.in-Net.is)
    (datagram_sent c.args.moment c.in-Net.group c.in-Net.bytes.now b n n' told faults c.in-Ok-send.ensures.told)

pub returns-in-Err-send : goal.returns-in-Err-send
returns-in-Err-send g c =
    let m = c.args.moment in
    let b = g.B.Link.traffic c.args.bus.now in
    let n = g.E.Link.traffic c.args.net.now in
    let n' = g.E.Link.traffic c.send.new.self in
    let told = g.K.Sink.taken c.args.out.now in
    let told' = g.K.Sink.taken c.write_report-in-Err-send.new.out in
    let faults = g.K.Sink.fault_count c.args.out.now in
    let faults' = g.K.Sink.fault_count c.write_report-in-Err-send.new.out in
    let result = c.write_report-in-Err-send.result in
    subst (λ (e : Emit). Hands (outside b n told faults) (outside b n' told' faults') (due_now m (emit_of e)) result) (sym c.in-Net.is)
    (datagram_failed m c.in-Net.group c.in-Net.bytes.now b n n' told told' faults faults' result c.in-Err-send.ensures.told
    (subst (λ (r : Report). WritesReport m r told told' faults faults' result) c.unsent-in-Err-send.ensures
    c.write_report-in-Err-send.ensures))

pub returns-in-Report : goal.returns-in-Report
returns-in-Report g c =
    let m = c.args.moment in
    let b = g.B.Link.traffic c.args.bus.now in
    let n = g.E.Link.traffic c.args.net.now in
    let told = g.K.Sink.taken c.args.out.now in
    let told' = g.K.Sink.taken c.write_report-in-Report.new.out in
    let faults = g.K.Sink.fault_count c.args.out.now in
    let faults' = g.K.Sink.fault_count c.write_report-in-Report.new.out in
    let result = c.write_report-in-Report.result in
    subst (λ (e : Emit). Hands (outside b n told faults) (outside b n told' faults') (due_now m (emit_of e)) result) (sym c.in-Report.is)
    (report_written m c.in-Report.report b n told told' faults faults' result c.write_report-in-Report.ensures)
