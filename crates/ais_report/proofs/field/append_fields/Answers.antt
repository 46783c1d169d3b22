use Rattle.ais_report.proofs.FitLemmas.{next_has_room}
use Rattle.ais_report.proofs.field.append_fields.Goals as goal

pub append_field-requires-clause-room : goal.append_field-requires-clause-room
append_field-requires-clause-room c = next_has_room _ _ _ _ _ c.loop-field-test.true c.loop-field.invariant.whole c.requires.room
