use Rattle.std.proofs.Common.{sym, ◌∙◌}
use Rattle.demo.proofs.Runs.{run_alone, run_ordered}
use Rattle.demo.proofs.running.take.Goals as goal

pub returns-in-Some-clause-run : goal.returns-in-Some-clause-run
returns-in-Some-clause-run c =
    run_ordered c.args.event.now c.args.gateway.now c.step.new.self c.step.new.out c.args.tally.now c.add_all.new.self c.moment.result c.requires.valid
    c.step.ensures.history c.moment.ensures.moment c.add_all.ensures.tally c.in-Some.command c.obey.new.gateway c.obey.new.tally
    (sym c.command.ensures ∙ c.in-Some.is) c.obey.ensures.ordered

pub returns-in-None-clause-run : goal.returns-in-None-clause-run
returns-in-None-clause-run c =
    run_alone c.args.event.now c.args.gateway.now c.step.new.self c.step.new.out c.args.tally.now c.add_all.new.self c.moment.result c.requires.valid
    c.step.ensures.history c.moment.ensures.moment c.add_all.ensures.tally (sym c.command.ensures ∙ c.in-None.is)
