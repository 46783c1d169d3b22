use Rattle.joined_heading.proofs.LawProofs.{measured_come_first}
use Rattle.joined_heading.proofs.laws.measured_headings_come_first.Goals as goal

pub returns : goal.returns
returns c = measured_come_first
