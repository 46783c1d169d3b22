use Rattle.capture_text.proofs.Decimals.{four_put}
use Rattle.capture_text.proofs.decimal.put_four.Goals as goal

pub returns : goal.returns
returns c = four_put c.args.number c.args.room.now c.requires.number c.requires.room
