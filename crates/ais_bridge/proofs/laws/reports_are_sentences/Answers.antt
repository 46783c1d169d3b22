use Rattle.ais_bridge.proofs.SentenceLemmas.{reports_are_said}
use Rattle.ais_bridge.proofs.laws.reports_are_sentences.Goals as goal

pub returns : goal.returns
returns c = reports_are_said
