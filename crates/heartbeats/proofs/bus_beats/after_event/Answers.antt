use Rattle.parts.proofs.Empty.{none_emitted}
use Rattle.heartbeats.proofs.Steps.{bus_takes}
use Rattle.heartbeats.proofs.bus_beats.after_event.Goals as goal

pub pass-requires : goal.pass-requires
pass-requires c = none_emitted c.args.place.now.emits c.requires.empty

pub returns-in-Some-clause-takes : goal.returns-in-Some-clause-takes
returns-in-Some-clause-takes c =
    bus_takes c.args.step.now c.args.beats.now c.in-Some.beats c.pass.new.self (record c.args.place.now { emits = c.pass.new.emits })
    c.moment_of.result c.in-Some.is c.moment_of.ensures c.pass.ensures.kept c.pass.ensures.given
