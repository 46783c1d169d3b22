use Rattle.source_choice.proofs.NoteLemmas.{noted_at}
use Rattle.source_choice.proofs.subject_notes.place_of.Goals as goal

pub returns-then-is_at-clause-place : goal.returns-then-is_at-clause-place
returns-then-is_at-clause-place c =
    (noted_at c.args.sources c.args.source c.args.likely c.args.notes.now c.requires.kept (c.is_at.ensures.here c.if-is_at.true)).0

pub returns-then-is_at-clause-within : goal.returns-then-is_at-clause-within
returns-then-is_at-clause-within c =
    (noted_at c.args.sources c.args.source c.args.likely c.args.notes.now c.requires.kept (c.is_at.ensures.here c.if-is_at.true)).1
