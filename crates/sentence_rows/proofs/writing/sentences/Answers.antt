-- What is said and read back is the text of the reading, and each of its lines is stable.
use Rattle.sentence_profile.proofs.Unique.{is_text}
use Rattle.sentence_profile.proofs.StableRows.{stable_lines}
use Rattle.sentence_rows.proofs.writing.sentences.Goals as goal

pub returns-clause-said : goal.returns-clause-said
returns-clause-said c = is_text c.args.reading.now c.args.talker c.args.ths _ c.say.ensures

pub returns-clause-stable : goal.returns-clause-stable
returns-clause-stable c = stable_lines c.args.reading.now c.args.talker c.args.ths _ c.requires.valid c.say.ensures
