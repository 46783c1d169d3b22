use Rattle.parts.proofs.Empty.{none_emitted, placed}
use Rattle.bus_answers.specs.AnsweringPart.{answering_gives, answering_stands, most_answered}
use Rattle.bus_answers.proofs.Answers.{event_answered}
use Rattle.bus_answers.proofs.answering.AnsweringPartAnswersPlace.after.Goals as goal

pub returns-in-Frame-clause-takes : goal.returns-in-Frame-clause-takes
returns-in-Frame-clause-takes c =
    placed answering_stands answering_gives c.args.step.now c.args.self.now c.answer_frame.new.self (record c.args.place.now { emits = c.answer_frame.new.out })
    (event_answered most_answered c.args.step.now _ _ c.args.self.now c.answer_frame.new.self c.args.place.now.emits c.answer_frame.new.out c.in-Frame.is
    (none_emitted c.args.place.now.emits c.requires.empty)
    (record { kept = c.answer_frame.ensures.kept; told = c.answer_frame.ensures.told; few = c.answer_frame.ensures.few }))
