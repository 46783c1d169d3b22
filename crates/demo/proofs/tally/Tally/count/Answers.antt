use Rattle.std.proofs.Common.{refl}
use Rattle.demo.proofs.tally.Tally.count.Goals as goal

pub returns-in-Net : goal.returns-in-Net
returns-in-Net c = rw c.in-Net.is refl
