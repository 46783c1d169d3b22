use Rattle.std.proofs.Common.{ℕ, List, ◌++◌, ap, subst, sym, ◌∙◌}
use Rattle.gate_events.specs.declared.emit.Emit.{Emit}
use Rattle.n2k_id.specs.Frame.{bus_frame}
use Rattle.capture_text.specs.Writing.{IsToldIn, datagram_text, frame_text, report_text, time_text}
use Rattle.capture_text.proofs.Again.{can_again, net_again}
use Rattle.capture_text.proofs.OneLine.{datagram_in_line, frame_in_line, report_line, time_in_line, whole_line}
use Rattle.capture_text.proofs.writing.write_emit.Goals as goal

pub returns-in-Can-clause-again : goal.returns-in-Can-clause-again
returns-in-Can-clause-again c =
    can_again c.args.emit.now c.in-Can.frame c.args.moment c.append_time.new.out.items c.append_frame.new.out.items c.in-Can.is c.requires.can c.append_frame.ensures.fit c.append_time.ensures.text c.append_frame.ensures.text

pub returns-in-Net-clause-again : goal.returns-in-Net-clause-again
returns-in-Net-clause-again c =
    net_again c.args.emit.now c.in-Net.group c.in-Net.bytes c.args.moment c.append_time.new.out.items c.append_datagram.new.out.items c.in-Net.is c.requires.can c.append_datagram.ensures.fit c.append_time.ensures.text c.append_datagram.ensures.text

pub returns-in-Can-clause-one : goal.returns-in-Can-clause-one
returns-in-Can-clause-one c =
    let f = bus_frame c.in-Can.frame in
    whole_line (time_text c.args.moment) (frame_text f) c.append_time.new.out.items c.append_frame.new.out.items c.append_time.ensures.text c.append_frame.ensures.text
    (time_in_line c.args.moment c.ranges.moment.fits) (frame_in_line f c.append_frame.ensures.fit)

pub returns-in-Net-clause-one : goal.returns-in-Net-clause-one
returns-in-Net-clause-one c =
    let group = c.in-Net.group in
    let bytes = c.in-Net.bytes.now in
    whole_line (time_text c.args.moment) (datagram_text group bytes) c.append_time.new.out.items c.append_datagram.new.out.items c.append_time.ensures.text
    c.append_datagram.ensures.text (time_in_line c.args.moment c.ranges.moment.fits) (datagram_in_line group bytes c.append_datagram.ensures.fit.0 c.append_datagram.ensures.fit.1)

pub returns-in-Report-clause-one : goal.returns-in-Report-clause-one
returns-in-Report-clause-one c =
    whole_line (time_text c.args.moment) (report_text c.in-Report.report) c.append_time.new.out.items c.append_report.new.out.items c.append_time.ensures.text
    c.append_report.ensures.text (time_in_line c.args.moment c.ranges.moment.fits) c.append_report.ensures.one

pub returns-in-Report-clause-report : goal.returns-in-Report-clause-report
returns-in-Report-clause-report c =
    let m = c.args.moment in
    let r = c.in-Report.report in
    let line = c.append_report.new.out.items in
    let one = whole_line (time_text m) (report_text r) c.append_time.new.out.items line c.append_time.ensures.text c.append_report.ensures.text
    (time_in_line m c.ranges.moment.fits) c.append_report.ensures.one in
    subst (λ (e : Emit). IsToldIn e line) (sym c.in-Report.is)
    (report_line m r line c.ranges.moment.fits
    (c.append_report.ensures.text ∙ ap (λ (x : List ℕ). x ++ report_text r) c.append_time.ensures.text) one)
