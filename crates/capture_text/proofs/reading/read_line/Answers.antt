use Rattle.std.proofs.Common.{◌∙◌}
use Rattle.capture_text.proofs.Laws.{again, is_found, is_long, is_not_extended, is_form}
use Rattle.capture_text.proofs.reading.read_line.Goals as goal

pub returns-clause-found : goal.returns-clause-found
returns-clause-found c = is_found c.args.line.now c.parse.result c.parse.ensures.reads

pub returns-clause-only : goal.returns-clause-only
returns-clause-only c = λ event h. c.parse.ensures.reads ∙ again c.args.line.now event h

pub returns-clause-long : goal.returns-clause-long
returns-clause-long c = is_long c.args.line.now c.parse.result c.parse.ensures.reads

pub returns-clause-not_extended : goal.returns-clause-not_extended
returns-clause-not_extended c = is_not_extended c.args.line.now c.parse.result c.parse.ensures.reads

pub returns-clause-form : goal.returns-clause-form
returns-clause-form c = is_form c.args.line.now c.parse.result c.parse.ensures.reads
