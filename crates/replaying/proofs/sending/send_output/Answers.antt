use Rattle.std.proofs.Common.{subst, Result}
use Rattle.gate_outside.specs.declared.Failed.{Failed}
use Rattle.replaying.specs.Replaying.{IsSent, output_text}
use Rattle.replaying.proofs.SendingLemmas.{sent_more, sent_no_more}
use Rattle.replaying.proofs.sending.send_output.Goals as goal

pub returns-in-Ok : goal.returns-in-Ok
returns-in-Ok g c = λ told faults waiting before s.
    let t = g.K.Sink.taken c.args.out.now in
    let f = g.K.Sink.fault_count c.args.out.now in
    sent_more told t (g.K.Sink.taken c.send_lines.new.out) faults f (g.K.Sink.fault_count c.send_lines.new.out) waiting before
    (output_text c.args.moment c.args.bridge.now) c.args.writer.now c.send_lines.new.writer c.in-Ok.field-0 c.send_lines.result
    (subst (λ (r : Result (Unit {0}) Failed). IsSent told faults waiting before t f c.args.writer.now r) c.in-Ok.is s) c.send_lines.ensures.sent c.send_lines.ensures.cause

pub returns-in-Err : goal.returns-in-Err
returns-in-Err g c = λ told faults waiting before s.
    let t = g.K.Sink.taken c.args.out.now in
    let f = g.K.Sink.fault_count c.args.out.now in
    sent_no_more told t faults f waiting before (output_text c.args.moment c.args.bridge.now) c.args.writer.now c.args.writer.now c.in-Err.field-0 _
    (subst (λ (r : Result (Unit {0}) Failed). IsSent told faults waiting before t f c.args.writer.now r) c.in-Err.is s)
