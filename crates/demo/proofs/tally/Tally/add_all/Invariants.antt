-- The emits before the place were counted.
use Rattle.std.proofs.Common.{◌≡◌, ◌≤◌, length, take}
use Rattle.gate_outbox.specs.Output.{emits_of, most_emits}
use Rattle.history.specs.Emits.{at}
use Rattle.demo.specs.Tally.{and_all}
use Rattle.demo.proofs.tally.Tally.add_all.Given as goal

abbrev pub invariant-loop-place : goal.invariant-loop-place
invariant-loop-place l = record {
  counted : l.self ≡ and_all l.fn.self (at l.fn.moment (take l.place (emits_of l.fn.emits.emits)));
  most : length (emits_of l.fn.emits.emits) ≤ most_emits;
}
