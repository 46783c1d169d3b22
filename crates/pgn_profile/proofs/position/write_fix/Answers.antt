use Rattle.std.proofs.Common.{rules}
use Rattle.pgn_profile.proofs.position.write_fix.Goals as goal

pub returns : goal.returns
returns c = rw c.in-Gnss.is (search rules)
