use Rattle.sentence_profile.proofs.ShortSentences.{said_briefly}
use Rattle.sentence_profile.proofs.laws.readings_are_said_briefly.Goals as goal

pub returns : goal.returns
returns c = said_briefly
