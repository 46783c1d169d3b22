use Rattle.command_line.specs.Statuses.{number}
use Rattle.gateway_commands.proofs.ReplayCommandLemmas.{no_refusal, only_memory, replayed}
use Rattle.gateway_commands.proofs.replay_command.replay.Goals as goal

pub returns-in-Ok-clause-replays : goal.returns-in-Ok-clause-replays
returns-in-Ok-clause-replays g c =
    replayed (g.F.Files.content c.args.files.now c.args.name.now) (g.F.Files.fault_count c.args.files.now) (g.F.Files.fault_count c.load_whole.new.files)
    (g.S.Source.left c.args.input.now) (g.S.Source.left c.replay_setup.new.input) (g.S.Source.fault_count c.args.input.now) (g.S.Source.fault_count c.replay_setup.new.input)
    (g.K.Sink.taken c.args.out.now) (g.K.Sink.taken c.replay_setup.new.out) (g.K.Sink.fault_count c.args.out.now) (g.K.Sink.fault_count c.replay_setup.new.out) (number c.replay_setup.result)
    c.in-Ok.setup.value c.in-Ok.ensures.1 (rw c.deref.ensures at c.replay_setup.ensures.runs)

pub returns-in-Ok-clause-refused : goal.returns-in-Ok-clause-refused
returns-in-Ok-clause-refused g c = λ is. absurd (no_refusal (number c.replay_setup.result) c.replay_setup.ensures.runs.known is)

pub returns-in-Ok-clause-quiet : goal.returns-in-Ok-clause-quiet
returns-in-Ok-clause-quiet g c = λ early.
    c.replay_setup.ensures.memory (only_memory (number c.replay_setup.result) c.replay_setup.ensures.runs.known early)
