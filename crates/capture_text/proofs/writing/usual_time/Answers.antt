use Rattle.capture_text.proofs.Decimals.{time_put}
use Rattle.capture_text.proofs.writing.usual_time.Goals as goal

pub returns : goal.returns
returns c =
    time_put c.args.moment c.put_sixteen.new.room c.copy_from_slice.new.self c.copy_from_slice-2.new.self c.requires.late c.requires.early c.put_sixteen.ensures c.copy_from_slice.ensures.after c.copy_from_slice-2.ensures.after
