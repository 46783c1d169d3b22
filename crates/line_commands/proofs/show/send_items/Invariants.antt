use Rattle.std.proofs.Common.{◌≡◌, length}
use Rattle.std.specs.List.{flat_map}
use Rattle.line_commands.specs.Show.{item_text}
use Rattle.capture_stream.proofs.WriterLemmas.{Partly}
use Rattle.line_commands.proofs.show.send_items.Given as goal

abbrev pub invariant-items : goal.invariant-items
invariant-items g l = record {
  partly : Partly (flat_map (item_text l.number) l.fn.items) (flat_map (item_text l.number) l.items) l.fn.writer (g.K.Sink.taken l.fn.out) (g.K.Sink.taken l.out) l.writer;
  steady : g.K.Sink.fault_count l.out ≡ g.K.Sink.fault_count l.fn.out;
}

abbrev pub decreases-items : goal.decreases-items
decreases-items g l = length l.items
