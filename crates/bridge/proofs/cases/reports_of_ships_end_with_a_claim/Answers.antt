use Rattle.bridge.proofs.PartCases.{ship_across_a_claim}
use Rattle.bridge.proofs.cases.reports_of_ships_end_with_a_claim.Goals as goal

pub returns : goal.returns
returns c = ship_across_a_claim
