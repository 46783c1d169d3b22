-- What was appended, with what is still to be appended, makes the whole.
use Rattle.std.proofs.Common.{◌≡◌, length}
use Rattle.sentence_text.specs.Fields.{fields_of}
use Rattle.plain_out.specs.Pace.{with_fields}
use Rattle.plain_out.proofs.places.Places.add_fields.Given as goal

abbrev pub invariant-loop-rest : goal.invariant-loop-rest
invariant-loop-rest l = with_fields l.self (fields_of l.rest) ≡ with_fields l.initial.self (fields_of l.initial.rest)

abbrev pub decreases-loop-rest : goal.decreases-loop-rest
decreases-loop-rest l = length l.rest
