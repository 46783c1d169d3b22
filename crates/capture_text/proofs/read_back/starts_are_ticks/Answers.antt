use Rattle.capture_text.proofs.Again.{starts_are_ticks}
use Rattle.capture_text.proofs.read_back.starts_are_ticks.Goals as goal

pub returns : goal.returns
returns c = starts_are_ticks
