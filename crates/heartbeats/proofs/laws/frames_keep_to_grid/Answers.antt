use Rattle.heartbeats.proofs.Promises.{frames_keep_to_grid}
use Rattle.heartbeats.proofs.laws.frames_keep_to_grid.Goals as goal

pub returns : goal.returns
returns c = frames_keep_to_grid
