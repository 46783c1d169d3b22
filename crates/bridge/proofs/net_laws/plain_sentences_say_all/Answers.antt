use Rattle.bridge.proofs.NetWhole.{plain_says_all, plain_says_nothing_else}
use Rattle.bridge.proofs.net_laws.plain_sentences_say_all.Goals as goal

pub returns-clause-all : goal.returns-clause-all
returns-clause-all c = plain_says_all

pub returns-clause-some : goal.returns-clause-some
returns-clause-some c = plain_says_nothing_else
