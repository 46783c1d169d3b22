use Rattle.history.proofs.LineCases.{bad_lines, bad_fields, own_line_elsewhere, one_line_too_many}
use Rattle.history.proofs.cases.lines_break_rules.Goals as goal

pub returns-clause-bad_lines : goal.returns-clause-bad_lines
returns-clause-bad_lines c = bad_lines

pub returns-clause-bad_fields : goal.returns-clause-bad_fields
returns-clause-bad_fields c = bad_fields

pub returns-clause-own_line_elsewhere : goal.returns-clause-own_line_elsewhere
returns-clause-own_line_elsewhere c = own_line_elsewhere

pub returns-clause-one_line_too_many : goal.returns-clause-one_line_too_many
returns-clause-one_line_too_many c = one_line_too_many
