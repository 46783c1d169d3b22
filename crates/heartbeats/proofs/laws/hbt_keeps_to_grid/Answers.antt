use Rattle.heartbeats.proofs.Promises.{hbt_keeps_to_grid}
use Rattle.heartbeats.proofs.laws.hbt_keeps_to_grid.Goals as goal

pub returns : goal.returns
returns c = hbt_keeps_to_grid
