use Rattle.fast_packet.specs.contracts.key.FastKeyOrd as key
use Rattle.fast_packet.proofs.Keys.{follows_runs, answers_runs}
use Rattle.fast_packet.proofs.laws.keys_follow_runs.Goals as goal

pub returns-clause-follows : goal.returns-clause-follows
returns-clause-follows c limit h fits = follows_runs key.TheImpl.Laws.total-law limit h fits

pub returns-clause-answers : goal.returns-clause-answers
returns-clause-answers c limit h k x fed fits = answers_runs key.TheImpl.Laws.total-law limit h k x fits fed
