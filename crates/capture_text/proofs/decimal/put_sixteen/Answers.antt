use Rattle.capture_text.proofs.Decimals.{sixteen_put}
use Rattle.capture_text.proofs.decimal.put_sixteen.Goals as goal

pub returns : goal.returns
returns c = sixteen_put c.args.number c.args.room.now c.put_eight.new.room c.put_eight-2.new.room c.put_eight.ensures c.put_eight-2.ensures
