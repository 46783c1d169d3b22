use Rattle.history.proofs.RankCases.{by_smaller_name, not_listed, others_by_name}
use Rattle.history.proofs.cases.names_decide.Goals as goal

pub returns-clause-by_smaller_name : goal.returns-clause-by_smaller_name
returns-clause-by_smaller_name c = by_smaller_name

pub returns-clause-not_listed : goal.returns-clause-not_listed
returns-clause-not_listed c = not_listed

pub returns-clause-others_by_name : goal.returns-clause-others_by_name
returns-clause-others_by_name c = others_by_name
