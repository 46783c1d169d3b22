use Rattle.std.proofs.Common.{Err, sym, ap, ◌∙◌}
use Rattle.std.specs.List.{flat_map}
use Rattle.datagram450.specs.declared.fault.DatagramFault.{DatagramFault}
use Rattle.datagram450.specs.Datagram.{read}
use Rattle.line_commands.specs.Show.{item_text, items_text, place_text}
use Rattle.capture_stream.proofs.WriterLemmas.{writes_as}
use Rattle.line_commands.proofs.show.send_datagram.Goals as goal

pub returns-in-Ok-clause-sent : goal.returns-in-Ok-clause-sent
returns-in-Ok-clause-sent g c =
    let n = c.args.number in
    writes_as (g.K.Sink.taken c.args.out.now) (g.K.Sink.taken c.send_items.new.out) c.args.writer.now (flat_map (item_text n) c.in-Ok.items) (items_text n (read c.args.bytes.now)) c.send_items.new.writer c.send_items.result
    (ap (items_text n) c.in-Ok.ensures.exact) c.send_items.ensures.sent

pub returns-in-Err-Header-clause-sent : goal.returns-in-Err-Header-clause-sent
returns-in-Err-Header-clause-sent g c =
    let n = c.args.number in
    let h = c.in-Err-Header in
    writes_as (g.K.Sink.taken c.args.out.now) (g.K.Sink.taken c.send_place.new.out) c.args.writer.now (place_text n h.place 30) (items_text n (read c.args.bytes.now)) c.send_place.new.writer c.send_place.result
    (ap (λ (f : DatagramFault). items_text n (Err f)) (sym h.field-0-is) ∙ ap (items_text n) h.ensures.exact) c.send_place.ensures.sent

pub returns-in-Err-Long-clause-sent : goal.returns-in-Err-Long-clause-sent
returns-in-Err-Long-clause-sent g c =
    let n = c.args.number in
    let h = c.in-Err-Long in
    writes_as (g.K.Sink.taken c.args.out.now) (g.K.Sink.taken c.send_place-in-Err-Long.new.out) c.args.writer.now (place_text n 1472 47) (items_text n (read c.args.bytes.now)) c.send_place-in-Err-Long.new.writer c.send_place-in-Err-Long.result
    (ap (λ (f : DatagramFault). items_text n (Err f)) (sym h.field-0-is) ∙ ap (items_text n) h.ensures.exact) c.send_place-in-Err-Long.ensures.sent
