use Rattle.capture_text.proofs.Decimals.{two_put}
use Rattle.capture_text.proofs.decimal.put_pair.Goals as goal

pub returns : goal.returns
returns c = two_put c.args.number c.args.place c.args.room.now c.requires.number c.requires.place
