use Rattle.unit_fraction.proofs.ThereAndBack.{there_and_back, decimal_there_and_back}
use Rattle.unit_fraction.proofs.laws.there_and_back.Goals as goal

pub returns-clause-whole : goal.returns-clause-whole
returns-clause-whole c = there_and_back

pub returns-clause-decimal : goal.returns-clause-decimal
returns-clause-decimal c = decimal_there_and_back
