use Rattle.plain_out.proofs.Staying.{what_is_read_stays as they_do}
use Rattle.plain_out.proofs.laws.what_is_read_stays.Goals as goal

pub returns : goal.returns
returns c = they_do
