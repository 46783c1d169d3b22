use Rattle.gateway_commands.proofs.Alone.{replays_alone, serves_alone, turns_alone}
use Rattle.gateway_commands.proofs.laws.runs_stand_alone.Goals as goal

pub returns-clause-replays : goal.returns-clause-replays
returns-clause-replays c = replays_alone

pub returns-clause-serves : goal.returns-clause-serves
returns-clause-serves c = serves_alone

pub returns-clause-turns : goal.returns-clause-turns
returns-clause-turns c = turns_alone
