use Rattle.tag_block.specs.contracts.group_key.GroupKeyOrd as key
use Rattle.tag_block.proofs.GroupKeys.{follows_runs, answers_runs}
use Rattle.tag_block.proofs.group_laws.keys_follow_groups.Goals as goal

pub returns-clause-follows : goal.returns-clause-follows
returns-clause-follows c limit h fits = follows_runs key.TheImpl.Laws.total-law limit h fits

pub returns-clause-answers : goal.returns-clause-answers
returns-clause-answers c limit h k x fed fits = answers_runs key.TheImpl.Laws.total-law limit h k x fits fed
