use Rattle.std.proofs.Common.{refl, arith}
use Rattle.isolation.proofs.RunLemmas.{cut_here, runs_all, runs_next, valid_all, valid_more}
use Rattle.isolation.proofs.running.run.Goals as goal

pub loop-event-preserved : goal.loop-event-preserved
loop-event-preserved c = record {
  runs = runs_next _ _ _ c.args.events.now c.loop-event.event-index _ c.args.address _ _ _ (omega arith)
      c.loop-event.invariant.runs c.turn-done.ensures.turns c.in-Ok.ensures;
  valid = valid_more c.loop-event.event-index _ _ _ c.loop-event.invariant.valid c.turn-done.ensures.settings;
}

pub returns-in-Err-clause-cut : goal.returns-in-Err-clause-cut
returns-in-Err-clause-cut c =
    cut_here _ _ _ _ c.args.address _
    (runs_next _ _ _ c.args.events.now c.loop-event.event-index _ c.args.address _ _ _ (omega arith)
    c.loop-event.invariant.runs c.turn-done.ensures.turns refl)

pub returns-clause-runs : goal.returns-clause-runs
returns-clause-runs c = runs_all _ _ c.args.events.now c.loop-event.event-index c.args.address _ (omega arith) c.loop-event.invariant.runs

pub returns-clause-settings : goal.returns-clause-settings
returns-clause-settings c = valid_all c.loop-event.event-index _ _ c.args.events.now (omega arith) c.loop-event.invariant.valid
