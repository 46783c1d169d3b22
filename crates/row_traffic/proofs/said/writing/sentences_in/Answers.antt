use Rattle.std.proofs.Common.{ap, sym, ◌∙◌}
use Rattle.readings.specs.Rows.{row_of}
use Rattle.sentence_fields.specs.Field.{texts_of}
use Rattle.sentence_profile.specs.Writing.{sentences_of}
use Rattle.sentence_profile.proofs.Unique.{said_in_one_way}
use Rattle.history.specs.Settings.{rule_of}
use Rattle.config_values.specs.Settings.{settings_by}
use Rattle.row_traffic.proofs.Saying.{says_ths}
use Rattle.row_traffic.proofs.said.writing.sentences_in.Goals as goal

pub returns : goal.returns
returns c =
    let r = c.args.reading.now in
    let config = c.args.config.now in
    (said_in_one_way r c.talker_of.result config.base.ths (texts_of c.sentences.new.out) c.requires.valid).0 c.sentences.ensures.said
    ∙ ap (λ talker. sentences_of talker config.base.ths r) (c.talker_of.ensures.talker ∙ ap (λ row. (rule_of (settings_by config) row).talker) c.row.ensures)
    ∙ ap (λ ths. sentences_of (rule_of (settings_by config) (row_of r)).talker ths r) (sym (says_ths config))
