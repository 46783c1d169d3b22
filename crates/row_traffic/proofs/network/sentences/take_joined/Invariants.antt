-- What was taken and what is still to be taken make up the whole.
use Rattle.std.proofs.Common.{◌≡◌, ◌<◌, length}
use Rattle.datagram450.specs.Datagram.{cut}
use Rattle.gate_model.specs.Net.{sentences_after, sentences_emit}
use Rattle.row_traffic.specs.NetCalls.{line_of}
use Rattle.gate_outbox.specs.Output.{and_told, most_told}
use Rattle.row_traffic.proofs.network.sentences.take_joined.Given as goal

abbrev pub invariant-loop-text : goal.invariant-loop-text
invariant-loop-text l =
    let line = line_of l.line in
    let own = l.line.came.own in
    let all = (cut l.joined).lines in
    let left = (cut l.rest).lines in
    record {
      after : sentences_after l.readings line left ≡ sentences_after l.initial.readings line all;
      whole : and_told most_told l.out (sentences_emit own l.readings line left)
          ≡ and_told most_told l.initial.out (sentences_emit own l.initial.readings line all);
      source : l.line.source < l.readings.choices.sources;
    }

abbrev pub decreases-loop-text : goal.decreases-loop-text
decreases-loop-text l = length l.rest
