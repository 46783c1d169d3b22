-- What was sent and what is still to be sent make up the whole.
use Rattle.std.proofs.Common.{◌≡◌, map, drop}
use Rattle.gate_outbox.specs.Output.{and_told, most_told}
use Rattle.row_traffic.specs.Sending.{sent_with}
use Rattle.row_traffic.proofs.sending.send_pieces.Given as goal

abbrev pub invariant-loop-piece : goal.invariant-loop-piece
invariant-loop-piece l = record {
  whole : and_told most_told l.out (map (sent_with l.parts) (drop l.piece-index l.pieces)) ≡ and_told most_told l.initial.out (map (sent_with l.parts) l.pieces);
}
