-- What was taken and what is still to be taken make up the whole.
use Rattle.std.proofs.Common.{◌≡◌, ◌<◌, drop}
use Rattle.gate_model.specs.Net.{readings_after, readings_emit}
use Rattle.row_traffic.specs.NetCalls.{line_of}
use Rattle.gate_outbox.specs.Output.{and_told, most_told}
use Rattle.row_traffic.proofs.network.rows.Readings.take_all.Given as goal

abbrev pub invariant-loop-reading : goal.invariant-loop-reading
invariant-loop-reading l =
    let line = line_of l.line in
    let own = l.line.came.own in
    let left = drop l.reading-index l.readings in
    record {
      after : readings_after l.self line left ≡ readings_after l.initial.self line l.readings;
      whole : and_told most_told l.out (readings_emit own l.self line left)
          ≡ and_told most_told l.initial.out (readings_emit own l.initial.self line l.readings);
      source : l.line.source < l.self.choices.sources;
    }
