use Rattle.std.proofs.Common.{inr, rules}
use Rattle.serving.specs.BridgeSettings.{bridge_settings_of}
use Rattle.command_line.specs.Statuses.{number}
use Rattle.gateway_commands.proofs.ReplayCommandLemmas.{memory_held}
use Rattle.gateway_commands.proofs.replay.replay_setup.Goals as goal

pub returns-in-Ok-clause-runs : goal.returns-in-Ok-clause-runs
returns-in-Ok-clause-runs g c =
    let a = c.answer-status.ensures in
    record {
      known = inr a.status;
      ends = a.ends (bridge_settings_of c.args.setup.now) c.in-Ok.ensures;
      sink_cause = a.sink_cause;
      source_cause = a.source_cause;
      steady = a.steady;
      complete = λ no. a.complete (bridge_settings_of c.args.setup.now) c.in-Ok.ensures;
    }

pub returns-in-Ok-clause-memory : goal.returns-in-Ok-clause-memory
returns-in-Ok-clause-memory g c = λ is. absurd (memory_held (number c.answer-status.result) c.answer-status.ensures.status is)

pub returns-in-Err-clause-runs : goal.returns-in-Err-clause-runs
returns-in-Err-clause-runs g c = search rules
