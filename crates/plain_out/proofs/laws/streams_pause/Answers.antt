use Rattle.plain_out.proofs.PaceLaws.{last_is_kept, losses_are_told, streams_pause as they_do}
use Rattle.plain_out.proofs.laws.streams_pause.Goals as goal

pub returns-clause-pause : goal.returns-clause-pause
returns-clause-pause c = they_do

pub returns-clause-told : goal.returns-clause-told
returns-clause-told c = losses_are_told

pub returns-clause-last : goal.returns-clause-last
returns-clause-last c = last_is_kept
