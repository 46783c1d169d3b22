use Rattle.history.proofs.ChoiceCases.{one_heading, first_of_two, short}
use Rattle.history.proofs.cases.sources_are_chosen.Goals as goal

pub returns-clause-one_heading : goal.returns-clause-one_heading
returns-clause-one_heading c = one_heading

pub returns-clause-first_of_two : goal.returns-clause-first_of_two
returns-clause-first_of_two c = first_of_two

pub returns-clause-short : goal.returns-clause-short
returns-clause-short c = short
