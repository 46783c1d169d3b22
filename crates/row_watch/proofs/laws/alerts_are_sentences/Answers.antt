use Rattle.row_watch.proofs.Texts.{alerts_are_sentences}
use Rattle.row_watch.proofs.laws.alerts_are_sentences.Goals as goal

pub returns : goal.returns
returns c = alerts_are_sentences
