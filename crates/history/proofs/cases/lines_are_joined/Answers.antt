use Rattle.history.proofs.GroupCases.{nine_lines, alone_in_its_group, another_total, sources_apart, first_again}
use Rattle.history.proofs.cases.lines_are_joined.Goals as goal

pub returns-clause-nine_lines : goal.returns-clause-nine_lines
returns-clause-nine_lines c = nine_lines

pub returns-clause-alone_in_its_group : goal.returns-clause-alone_in_its_group
returns-clause-alone_in_its_group c = alone_in_its_group

pub returns-clause-another_total : goal.returns-clause-another_total
returns-clause-another_total c = another_total

pub returns-clause-sources_apart : goal.returns-clause-sources_apart
returns-clause-sources_apart c = sources_apart

pub returns-clause-first_again : goal.returns-clause-first_again
returns-clause-first_again c = first_again
