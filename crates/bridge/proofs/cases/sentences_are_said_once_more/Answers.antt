use Rattle.bridge.proofs.PartCases.{two_sentences, plain_comes_last}
use Rattle.bridge.proofs.cases.sentences_are_said_once_more.Goals as goal

pub returns-clause-two_sentences : goal.returns-clause-two_sentences
returns-clause-two_sentences c = two_sentences

pub returns-clause-plain_comes_last : goal.returns-clause-plain_comes_last
returns-clause-plain_comes_last c = plain_comes_last
