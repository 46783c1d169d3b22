use Rattle.std.proofs.Common.{sym, ◌∙◌}
use Rattle.source_choice.specs.Notes.{outranks}
use Rattle.source_choice.proofs.NoteLemmas.{any_at}
use Rattle.source_choice.proofs.subject_notes.outranks_at.Goals as goal

pub returns-in-Some : goal.returns-in-Some
returns-in-Some c = λ is.
    let found = c.in-Some.ensures.lookup in
    any_at (outranks c.args.timeout c.args.source c.args.rank c.args.moment) c.args.place c.in-Some.note.now c.args.notes.now found.3.0 found.1
    (sym c.outranks.ensures ∙ is)
