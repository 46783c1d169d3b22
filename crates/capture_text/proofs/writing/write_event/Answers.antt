use Rattle.std.proofs.Common.{subst}
use Rattle.std.specs.Prelude.{codes}
use Rattle.gate_events.specs.declared.event.Event.TheVariants as event
use Rattle.n2k_id.specs.Frame.{bus_frame}
use Rattle.capture_text.specs.Writing.{CanRecord, datagram_text, frame_text}
use Rattle.capture_text.proofs.Again.{datagram_again, event_said, frame_again, frame_fits, tick_again}
use Rattle.capture_text.proofs.writing.write_event.Goals as goal

pub returns-in-Frame-clause-again : goal.returns-in-Frame-clause-again
returns-in-Frame-clause-again c =
    let m = c.in-Frame.moment in
    let f = c.in-Frame.frame in
    event_said c.args.event.now (event.Frame m f) c.moment.result c.append_time.new.out.items (frame_text (bus_frame f)) c.append_frame.new.out.items
    c.in-Frame.is c.moment.ensures c.append_time.ensures.text c.append_frame.ensures.text
    (λ early. frame_again m (bus_frame f) early (frame_fits m f ((subst CanRecord c.in-Frame.is c.requires.can).0) c.append_frame.ensures.fit))

pub returns-in-Datagram-clause-again : goal.returns-in-Datagram-clause-again
returns-in-Datagram-clause-again c =
    let m = c.in-Datagram.moment in
    let bytes = c.in-Datagram.bytes in
    let fit = c.append_datagram.ensures.fit in
    event_said c.args.event.now (event.Datagram m bytes) c.moment.result c.append_time.new.out.items (datagram_text c.args.group bytes.now)
    c.append_datagram.new.out.items c.in-Datagram.is c.moment.ensures c.append_time.ensures.text c.append_datagram.ensures.text
    (λ early. datagram_again m c.args.group bytes.now early fit.0 ((subst CanRecord c.in-Datagram.is c.requires.can).1, fit.1))

pub returns-in-Tick-clause-again : goal.returns-in-Tick-clause-again
returns-in-Tick-clause-again c =
    let m = c.in-Tick.moment in
    event_said c.args.event.now (event.Tick m) c.moment.result c.append_time.new.out.items (codes "tick") c.append.new.out.items c.in-Tick.is
    c.moment.ensures c.append_time.ensures.text c.append.ensures.text (λ early. tick_again m early)
