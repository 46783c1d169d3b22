use Rattle.std.proofs.Common.{rules}
use Rattle.pgn_profile.proofs.position.write_course.Goals as goal

pub returns : goal.returns
returns c = search rules
