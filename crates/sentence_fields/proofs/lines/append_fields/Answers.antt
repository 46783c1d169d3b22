use Rattle.sentence_fields.proofs.Bodies.{next}
use Rattle.sentence_fields.proofs.lines.append_fields.Goals as goal

pub loop-field-preserved : goal.loop-field-preserved
loop-field-preserved c =
    next _ _ _ _ _ _ _ c.requires.printable c.loop-field-test.true c.push.ensures.items c.append.ensures c.loop-field.invariant
