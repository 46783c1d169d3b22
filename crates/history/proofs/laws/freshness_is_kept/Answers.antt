use Rattle.history.proofs.FreshSteps.{messages_are_kept, claims_forget, commands_forget_none, readings_are_kept}
use Rattle.history.proofs.laws.freshness_is_kept.Goals as goal

pub returns-clause-messages : goal.returns-clause-messages
returns-clause-messages c = messages_are_kept

pub returns-clause-claims : goal.returns-clause-claims
returns-clause-claims c = claims_forget

pub returns-clause-commands : goal.returns-clause-commands
returns-clause-commands c = commands_forget_none

pub returns-clause-readings : goal.returns-clause-readings
returns-clause-readings c = readings_are_kept
