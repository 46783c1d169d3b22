use Rattle.std.proofs.Common.{◌≡◌, map, take, drop, ◌++◌, length}
use Rattle.source_choice.specs.Choices.{forgotten_in}
use Rattle.source_choice.proofs.choice.forget_in.Given as goal

abbrev pub invariant-loop-subject : goal.invariant-loop-subject
invariant-loop-subject l = record {
  long : length l.subjects.items ≡ length l.fn.subjects.items;
  done : l.subjects.items ≡ map (forgotten_in l.source) (take l.subject l.fn.subjects.items) ++ drop l.subject l.fn.subjects.items;
}
