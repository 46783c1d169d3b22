-- The events so far are a run, of valid settings where there was one.
use Rattle.std.proofs.Common.{take}
use Rattle.isolation.specs.Runs.{Runs}
use Rattle.isolation.proofs.RunLemmas.{IsSteppedValid}
use Rattle.isolation.proofs.running.run.Given as goal

abbrev pub invariant-loop-event : goal.invariant-loop-event
invariant-loop-event l = record {
  runs : Runs l.fn.gateway (take l.event-index l.events) l.address l.gateway l.told.items;
  valid : IsSteppedValid l.event-index l.fn.gateway l.gateway;
}
