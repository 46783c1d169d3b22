-- The gateway took the events before this number, and what it emitted was counted.
use Rattle.std.proofs.Common.{◌+◌, ◌*◌, ◌≤◌}
use Rattle.gate_outbox.specs.Output.{most_emits}
use Rattle.demo.specs.Input.{IsBefore}
use Rattle.demo.specs.Tally.{total}
use Rattle.demo.proofs.Runs.{HasRun}
use Rattle.demo.proofs.running.run.Given as goal

abbrev pub invariant-loop-number : goal.invariant-loop-number
invariant-loop-number l = record {
  ran : HasRun l.fn.seed l._number l.gateway l.tally;
  few : total l.tally ≤ most_emits + 2 * most_emits * l._number;
  before : IsBefore l.fn.seed l._number l.input;
}
