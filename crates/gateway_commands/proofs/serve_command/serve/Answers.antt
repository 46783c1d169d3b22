use Rattle.serving.specs.Served.{outside}
use Rattle.command_line.specs.Statuses.{number}
use Rattle.gateway_commands.proofs.ServeLemmas.{no_refusal, only_memory, served}
use Rattle.gateway_commands.proofs.serve_command.serve.Goals as goal

pub returns-in-Ok-clause-serves : goal.returns-in-Ok-clause-serves
returns-in-Ok-clause-serves g c =
    let old = outside (g.B.Link.traffic c.args.bus.now) (g.E.Link.traffic c.args.net.now) (g.K.Sink.taken c.args.out.now) (g.K.Sink.fault_count c.args.out.now) in
    let new = outside (g.B.Link.traffic c.serve_with.new.bus) (g.E.Link.traffic c.serve_with.new.net) (g.K.Sink.taken c.serve_with.new.out)
    (g.K.Sink.fault_count c.serve_with.new.out) in
    served c.args.turns (g.F.Files.content c.args.files.now c.args.name.now) (g.F.Files.fault_count c.args.files.now) (g.F.Files.fault_count c.load_whole.new.files)
    (g.C.Clock.readings c.args.clock.now) (g.C.Clock.readings c.serve_with.new.clock) (g.B.Link.fault_count c.args.bus.now) (g.B.Link.fault_count c.serve_with.new.bus)
    (g.E.Link.fault_count c.args.net.now) (g.E.Link.fault_count c.serve_with.new.net) old new (number c.serve_with.result) c.in-Ok.setup.value c.in-Ok.ensures.1 (rw c.deref.ensures at c.serve_with.ensures.serves)

pub returns-in-Ok-clause-refused : goal.returns-in-Ok-clause-refused
returns-in-Ok-clause-refused g c = λ is. absurd (no_refusal (number c.serve_with.result) c.serve_with.ensures.serves.known is)

pub returns-in-Ok-clause-quiet : goal.returns-in-Ok-clause-quiet
returns-in-Ok-clause-quiet g c = λ early.
    c.serve_with.ensures.memory (only_memory (number c.serve_with.result) c.serve_with.ensures.serves.known early)
