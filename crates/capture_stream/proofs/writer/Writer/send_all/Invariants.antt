use Rattle.std.proofs.Common.{◌≡◌, drop}
use Rattle.std.specs.List.{flat_map}
use Rattle.capture_stream.proofs.WriterLemmas.{Partly}
use Rattle.capture_stream.proofs.writer.Writer.send_all.Given as goal

abbrev pub invariant-loop-piece : goal.invariant-loop-piece
invariant-loop-piece g l = record {
  partly : Partly (flat_map (λ p. p.now) l.pieces) (flat_map (λ p. p.now) (drop l.piece-index l.pieces)) l.fn.self (g.K.Sink.taken l.fn.out) (g.K.Sink.taken l.out) l.self;
  steady : g.K.Sink.fault_count l.out ≡ g.K.Sink.fault_count l.fn.out;
}
