use Rattle.std.proofs.Common.{arith}
use Rattle.sentence_fields.proofs.Bodies.{magnitude_room}
use Rattle.sentence_fields.proofs.field.append_magnitude.Goals as goal

pub append_number-requires-clause-room : goal.append_number-requires-clause-room
append_number-requires-clause-room c = magnitude_room c.args.unit c.signed_size-size.result.1 _ c.requires.sound c.signed_size-size.ensures.small (omega (arith, c.signed_size-size.type_inv)) c.requires.room
