use Rattle.gate_core.proofs.Completing.{valid_reading}
use Rattle.gate_core.proofs.state.completing.say.Goals as goal

pub take-selected-requires : goal.take-selected-requires
take-selected-requires c = record { config = c.requires.config; source = c.requires.source; valid = valid_reading c.args.says.now c.requires.valid }

pub tell-requires : goal.tell-requires
tell-requires c = c.requires.valid
