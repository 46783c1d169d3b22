use Rattle.std.proofs.Common.{rules}
use Rattle.pgn_profile.specs.Layout.{messages}
use Rattle.pgn_profile.proofs.heading.read_heading.Goals as goal

pub returns-in-1 : goal.returns-in-1
unfolding messages
returns-in-1 c = search rules
