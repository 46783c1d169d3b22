use Rattle.config_check.proofs.ConfigLemmas.{accepted}
use Rattle.command_line.specs.Statuses.{number}
use Rattle.config_check.proofs.checking.check.Goals as goal

pub returns-in-Ok-clause-checks : goal.returns-in-Ok-clause-checks
returns-in-Ok-clause-checks g c =
    accepted (g.F.Files.content c.args.files.now c.args.name.now) (g.F.Files.fault_count c.args.files.now) (g.F.Files.fault_count c.load_whole.new.files)
    (g.K.Sink.taken c.args.out.now) (g.K.Sink.taken c.accept.new.out) (g.K.Sink.fault_count c.args.out.now) (g.K.Sink.fault_count c.accept.new.out) (number c.accept.result)
    c.in-Ok._accepted.value c.in-Ok.ensures.1 c.accept.ensures
