use Rattle.source_changes.proofs.WatchSteps.{commands_keep_watched_names as they_keep}
use Rattle.source_changes.proofs.laws.commands_keep_watched_names.Goals as goal

pub returns : goal.returns
returns c = they_keep
