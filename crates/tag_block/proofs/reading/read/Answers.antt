use Rattle.std.proofs.Common.{ap, ◌∙◌}
use Rattle.tag_block.specs.Reading as spec
use Rattle.tag_block.proofs.Laws.{is_found, is_read}
use Rattle.tag_block.proofs.Ranges.{are_ranges}
use Rattle.tag_block.proofs.reading.read.Goals as goal

pub returns-clause-found : goal.returns-clause-found
returns-clause-found c = is_found c.args.line.now c.parse.result c.parse.ensures

pub returns-clause-only : goal.returns-clause-only
returns-clause-only c = λ said bytes rest h stops e. c.parse.ensures ∙ ap spec.read e ∙ is_read said bytes rest h stops

pub returns-clause-ranges : goal.returns-clause-ranges
returns-clause-ranges c = are_ranges c.args.line.now c.parse.result c.parse.ensures
