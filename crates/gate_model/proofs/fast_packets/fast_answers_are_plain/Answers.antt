use Rattle.gate_model.proofs.FastAnswers.{fast_answers_are_plain}
use Rattle.gate_model.proofs.fast_packets.fast_answers_are_plain.Goals as goal

pub returns : goal.returns
returns c = fast_answers_are_plain
