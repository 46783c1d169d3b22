use Rattle.bus_identity.proofs.AnswerLemmas.{counts}
use Rattle.bus_identity.proofs.laws.sequences_count_messages.Goals as goal

pub returns : goal.returns
returns c information h = counts information h
