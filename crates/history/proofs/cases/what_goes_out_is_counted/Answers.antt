use Rattle.history.proofs.CounterCases.{each_group_its_lines, each_message_its_sequence}
use Rattle.history.proofs.cases.what_goes_out_is_counted.Goals as goal

pub returns-clause-each_group_its_lines : goal.returns-clause-each_group_its_lines
returns-clause-each_group_its_lines c = each_group_its_lines

pub returns-clause-each_message_its_sequence : goal.returns-clause-each_message_its_sequence
returns-clause-each_message_its_sequence c = each_message_its_sequence
