use Rattle.std.proofs.Common.{subst, sym}
use Rattle.std.specs.Prelude.{Option, Some}
use Rattle.heartbeats.specs.declared.heartbeats.Heartbeats.{Heartbeats}
use Rattle.supervision.specs.Supervised.{AskedBeatsTake}
use Rattle.supervision.proofs.Steps.{asked_beats_take}
use Rattle.supervision.proofs.supervision.beats_after.Goals as goal

pub returns-in-Some-clause-takes : goal.returns-in-Some-clause-takes
returns-in-Some-clause-takes c =
    let after = c.after_rows.new.self in
    subst (λ (before : Option Heartbeats). AskedBeatsTake c.args.step.now c.args.is_silent before (Some after) c.after_rows.new.place) (sym c.in-Some.is)
    (asked_beats_take c.args.step.now c.args.is_silent c.in-Some.beats after c.after_rows.new.place c.after_rows.ensures.takes)
