use Rattle.std.proofs.Common.{sym, ap, ◌∙◌}
use Rattle.gate_events.specs.declared.event.Event.{Event}
use Rattle.gate_events.specs.Event.{view}
use Rattle.line_commands.specs.Show.{seen_text}
use Rattle.capture_stream.proofs.WriterLemmas.{writes_as}
use Rattle.line_commands.proofs.show.send_event.Goals as goal

pub returns-in-Frame-clause-sent : goal.returns-in-Frame-clause-sent
returns-in-Frame-clause-sent g c =
    let n = c.args.number in
    writes_as (g.K.Sink.taken c.args.out.now) (g.K.Sink.taken c.send.new.out) c.args.writer.now c.as_slice.result.now (seen_text n (view c.args.event.now)) c.send.new.self c.send.result
    (c.as_slice.ensures.value ∙ c.write_frame.ensures ∙ sym (ap (λ (e : Event). seen_text n (view e)) c.in-Frame.is)) c.send.ensures.sent

pub returns-in-Tick-clause-sent : goal.returns-in-Tick-clause-sent
returns-in-Tick-clause-sent g c =
    let n = c.args.number in
    writes_as (g.K.Sink.taken c.args.out.now) (g.K.Sink.taken c.send-in-Tick.new.out) c.args.writer.now c.as_slice-in-Tick.result.now (seen_text n (view c.args.event.now)) c.send-in-Tick.new.self c.send-in-Tick.result
    (c.as_slice-in-Tick.ensures.value ∙ c.write_tick.ensures ∙ sym (ap (λ (e : Event). seen_text n (view e)) c.in-Tick.is)) c.send-in-Tick.ensures.sent
