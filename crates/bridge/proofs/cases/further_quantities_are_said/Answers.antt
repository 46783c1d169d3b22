use Rattle.bridge.proofs.FurtherCases.{lines_are_counted, first_of_two_is_said, said_once_more, several_are_said, sea_gives_way, engines_are_numbered}
use Rattle.bridge.proofs.cases.further_quantities_are_said.Goals as goal

pub returns-clause-lines_are_counted : goal.returns-clause-lines_are_counted
returns-clause-lines_are_counted c = lines_are_counted

pub returns-clause-first_of_two : goal.returns-clause-first_of_two
returns-clause-first_of_two c = first_of_two_is_said

pub returns-clause-said_once_more : goal.returns-clause-said_once_more
returns-clause-said_once_more c = said_once_more

pub returns-clause-several : goal.returns-clause-several
returns-clause-several c = several_are_said

pub returns-clause-one_voice : goal.returns-clause-one_voice
returns-clause-one_voice c = sea_gives_way

pub returns-clause-numbered : goal.returns-clause-numbered
returns-clause-numbered c = engines_are_numbered
