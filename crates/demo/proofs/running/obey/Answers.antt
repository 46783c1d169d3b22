use Rattle.demo.proofs.Runs.{ordered}
use Rattle.demo.proofs.running.obey.Goals as goal

pub returns-clause-ordered : goal.returns-clause-ordered
returns-clause-ordered c =
    ordered (record { source = c.args.source; address = c.args.address }) c.args.gateway.now c.command.new.self c.command.new.out c.args.tally.now
    c.add_all.new.self c.moment.result c.ranges.source.fits c.command.ensures.history c.moment.ensures.moment c.add_all.ensures.tally
