use Rattle.capture_text.proofs.Times.{digits_put}
use Rattle.capture_text.proofs.time.usual_digits.Goals as goal

pub returns : goal.returns
returns c = digits_put c.args.line.now c.copy_from_slice.new.self c.copy_from_slice-2.new.self c.requires c.copy_from_slice.ensures.after c.copy_from_slice-2.ensures.after
