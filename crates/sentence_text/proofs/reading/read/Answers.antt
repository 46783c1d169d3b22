use Rattle.std.proofs.Common.{◌∙◌}
use Rattle.sentence_text.proofs.Only.{only}
use Rattle.sentence_text.proofs.reading.read.Goals as goal

pub returns-clause-only : goal.returns-clause-only
returns-clause-only c = λ p h. c.parse.ensures ∙ only c.args.line.now p h
