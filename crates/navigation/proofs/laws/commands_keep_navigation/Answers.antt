use Rattle.navigation.proofs.Steps.{commands_keep_nav}
use Rattle.navigation.proofs.laws.commands_keep_navigation.Goals as goal

pub returns : goal.returns
returns c = commands_keep_nav
