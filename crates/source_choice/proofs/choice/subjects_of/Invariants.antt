use Rattle.std.proofs.Common.{◌≡◌, map, take}
use Rattle.source_choice.specs.Choices.{nothing}
use Rattle.source_choice.proofs.choice.subjects_of.Given as goal

abbrev pub invariant-loop-subject : goal.invariant-loop-subject
invariant-loop-subject l = l.subjects.items ≡ map (nothing l.sources) (take l.subject l.timeouts)
