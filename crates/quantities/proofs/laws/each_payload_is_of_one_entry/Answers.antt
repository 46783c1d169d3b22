use Rattle.quantities.proofs.OneEntry.{each_is_read}
use Rattle.quantities.proofs.laws.each_payload_is_of_one_entry.Goals as goal

pub returns : goal.returns
returns c = each_is_read
