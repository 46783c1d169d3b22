use Rattle.history.proofs.RankCases.{ignored_by_one_field, ignored_though_listed, all_ignored}
use Rattle.history.proofs.cases.devices_are_ignored.Goals as goal

pub returns-clause-by_one_field : goal.returns-clause-by_one_field
returns-clause-by_one_field c = ignored_by_one_field

pub returns-clause-though_listed : goal.returns-clause-though_listed
returns-clause-though_listed c = ignored_though_listed

pub returns-clause-all : goal.returns-clause-all
returns-clause-all c = all_ignored
