use Rattle.gateway_commands.proofs.replay.replay_with.Goals as goal

pub returns-in-Ok-clause-status : goal.returns-in-Ok-clause-status
returns-in-Ok-clause-status g c = rw c.number.ensures.number c.replay_setup.ensures.runs.known

pub returns-in-Ok-clause-sink_cause : goal.returns-in-Ok-clause-sink_cause
returns-in-Ok-clause-sink_cause g c = rw c.number.ensures.number c.replay_setup.ensures.runs.sink_cause

pub returns-in-Ok-clause-source_cause : goal.returns-in-Ok-clause-source_cause
returns-in-Ok-clause-source_cause g c = rw c.number.ensures.number c.replay_setup.ensures.runs.source_cause

pub returns-in-Ok-clause-steady : goal.returns-in-Ok-clause-steady
returns-in-Ok-clause-steady g c = rw c.number.ensures.number c.replay_setup.ensures.runs.steady

pub returns-in-Ok-clause-complete : goal.returns-in-Ok-clause-complete
returns-in-Ok-clause-complete g c = rw c.number.ensures.number c.replay_setup.ensures.runs.complete
