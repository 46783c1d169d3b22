-- What was sent and what is still to be sent make up the whole.
use Rattle.std.proofs.Common.{◌≡◌, map, drop}
use Rattle.n2k_id.specs.Frame.{bus_frame}
use Rattle.gate_events.specs.Emit.{can}
use Rattle.gate_outbox.specs.Output.{and_told}
use Rattle.bus_answers.specs.AnsweringPart.{most_answered}
use Rattle.bus_answers.proofs.answering.send_all.Given as goal

abbrev pub invariant-loop-frame : goal.invariant-loop-frame
invariant-loop-frame l = record {
  whole : and_told most_answered l.out (map can (map bus_frame (drop l.frame-index l.frames)))
      ≡ and_told most_answered l.initial.out (map can (map bus_frame l.frames));
}
