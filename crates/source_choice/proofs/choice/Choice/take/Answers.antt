use Rattle.source_choice.proofs.choice.Choice.take.Goals as goal

pub returns-clause-after : goal.returns-clause-after
returns-clause-after c = c.note.ensures
