use Rattle.std.proofs.Common.{◌∙◌}
use Rattle.row_watch.proofs.Texts.{said_so}
use Rattle.row_watch.proofs.alert.write_alert.Goals as goal

pub returns : goal.returns
returns c =
    c.write_sentence.ensures.text
    ∙ said_so c.args.talker c.args.row c.args.said c.number.result c.letter_where.result c.as_bytes.result c.number.ensures.number c.letter_where.ensures.value
    (c.as_bytes.ensures.value ∙ c.name.ensures.name)
