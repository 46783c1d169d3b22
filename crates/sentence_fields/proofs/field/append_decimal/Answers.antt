use Rattle.std.proofs.Common.{arith}
use Rattle.sentence_fields.proofs.Bodies.{decimal_room}
use Rattle.sentence_fields.proofs.field.append_decimal.Goals as goal

pub append_number-requires-clause-room : goal.append_number-requires-clause-room
append_number-requires-clause-room c = decimal_room c.args.unit _ c.signed_size-negative.result.1 _ c.requires.sound c.signed_size-negative.ensures.small (omega (arith, c.signed_size-negative.type_inv)) c.requires.room
