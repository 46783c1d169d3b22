use Rattle.bridge.proofs.PartCases.{fields_come_and_go}
use Rattle.bridge.proofs.cases.rmc_is_joined.Goals as goal

pub returns : goal.returns
returns c = fields_come_and_go
