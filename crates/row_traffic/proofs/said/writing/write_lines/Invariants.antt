-- What is written and what is still to be written make up the whole.
use Rattle.std.proofs.Common.{◌≡◌, ◌+◌, ◌++◌, length, drop}
use Rattle.history.specs.Emits.{lines_from}
use Rattle.row_traffic.specs.Saying.{texts}
use Rattle.row_traffic.proofs.said.writing.write_lines.Given as goal

abbrev pub invariant-loop-place : goal.invariant-loop-place
invariant-loop-place l = record {
  whole :
      l.packet.items ++ lines_from l.source (length l.sentences) l.code (l.before + l.place) (l.place + 1) (texts (drop l.place l.sentences))
      ≡ l.initial.packet.items ++ lines_from l.source (length l.sentences) l.code l.before 1 (texts l.sentences);
}
