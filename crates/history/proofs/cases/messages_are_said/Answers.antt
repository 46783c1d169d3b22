use Rattle.history.proofs.RowCases.{time_after_claim, two_sentences}
use Rattle.history.proofs.cases.messages_are_said.Goals as goal

pub returns-clause-time_after_claim : goal.returns-clause-time_after_claim
returns-clause-time_after_claim c = time_after_claim

pub returns-clause-two_sentences : goal.returns-clause-two_sentences
returns-clause-two_sentences c = two_sentences
