use Rattle.source_choice.proofs.NoteLemmas.{selected_by}
use Rattle.source_choice.proofs.subject_notes.SubjectNotes.selected.Goals as goal

pub returns-clause-first : goal.returns-clause-first
returns-clause-first c =
    selected_by (record { sources = c.self.inside.sources; timeout = c.self.inside.timeout; notes = c.self.inside.notes.items }) c.args.self.now c.self.inside.sources c.args.source c.args.rank c.args.moment c.deref.result.now c.any_outranks.result c.self.view_is c.self.invariant.0 c.deref.ensures.value c.any_outranks.ensures
