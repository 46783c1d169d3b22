use Rattle.std.proofs.Common.{◌∙◌}
use Rattle.iso_transport.proofs.Sources.{least_drops}
use Rattle.iso_transport.proofs.assembler.IsoAssembler.drop_source.Goals as goal

pub returns-clause-answer : goal.returns-clause-answer
returns-clause-answer c = (rw c.least_of-key.ensures at c.give_up.ensures.answer) ∙ (least_drops c.args.self.now c.args.source c.give_up.ensures.map).1
