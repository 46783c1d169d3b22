use Rattle.std.proofs.Common.{true, false}
use Rattle.iso_transport.proofs.Following.{follows_runs}
use Rattle.iso_transport.proofs.laws.sessions_follow_runs.Goals as goal

pub returns : goal.returns
returns c = record { addressed = follows_runs true; broadcast = follows_runs false }
