use Rattle.capture_text.proofs.Decimals.{eight_put}
use Rattle.capture_text.proofs.decimal.put_eight.Goals as goal

pub returns : goal.returns
returns c = eight_put c.args.number c.args.room.now c.put_four.new.room c.put_four-2.new.room c.put_four.ensures c.put_four-2.ensures
