use Rattle.std.proofs.Common.{ap, ◌∙◌}
use Rattle.std.specs.List.{flat_map}
use Rattle.std.proofs.lemmas.List.Concat.{flat_map-cons}
use Rattle.datagram450.specs.Datagram.{item_view}
use Rattle.line_commands.specs.Show.{item_text}
use Rattle.capture_stream.proofs.WriterLemmas.{partly_more, partly_stopped}
use Rattle.line_commands.proofs.show.send_items.Goals as goal

pub items-preserved : goal.items-preserved
items-preserved g c =
    let f = item_text c.args.number in
    let item = item_view c.in-Some.item in
    record {
      partly = partly_more (flat_map f c.args.items) (flat_map f c.items.items) (flat_map f c.next.new.self) c.args.writer.now (f item) (g.K.Sink.taken c.args.out.now) (g.K.Sink.taken c.items.out) (g.K.Sink.taken c.send_item.new.out) c.items.writer c.send_item.new.writer c.items.invariant.partly
          (ap (flat_map f) c.in-Some.ensures.steps ∙ flat_map-cons f item c.next.new.self) c.in-Ok.ensures.sent;
      steady = c.in-Ok.ensures.cause.steady ∙ c.items.invariant.steady;
    }

pub returns-in-Err-clause-sent : goal.returns-in-Err-clause-sent
returns-in-Err-clause-sent g c =
    let f = item_text c.args.number in
    let item = item_view c.in-Some.item in
    let some = c.in-Err.ensures.sent in
    partly_stopped (flat_map f c.args.items) (flat_map f c.items.items) (flat_map f c.next.new.self) c.args.writer.now (f item) (g.K.Sink.taken c.args.out.now) (g.K.Sink.taken c.items.out) (g.K.Sink.taken c.send_item.new.out) c.items.writer some.0 c.items.invariant.partly
    (ap (flat_map f) c.in-Some.ensures.steps ∙ flat_map-cons f item c.next.new.self) some.1
