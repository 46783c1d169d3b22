use Rattle.bus_identity.proofs.AnswerLemmas.{one_answer, others_none}
use Rattle.bus_identity.proofs.laws.each_due_request_has_one_answer.Goals as goal

pub returns-clause-due : goal.returns-clause-due
returns-clause-due c k own e = one_answer k own e

pub returns-clause-others : goal.returns-clause-others
returns-clause-others c k own ready e = others_none k own ready e
