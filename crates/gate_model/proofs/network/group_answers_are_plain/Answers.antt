use Rattle.gate_model.proofs.NetAnswers.{answers_are_plain}
use Rattle.gate_model.proofs.network.group_answers_are_plain.Goals as goal

pub returns : goal.returns
returns c = answers_are_plain
