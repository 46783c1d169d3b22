use Rattle.std.proofs.Common.{None, ap, ◌∙◌}
use Rattle.plain_out.specs.Pace.{uttered}
use Rattle.parts.specs.Lanes.{given_output}
use Rattle.parts.proofs.Empty.{first_empty, said_of_three, second_empty}
use Rattle.row_watch.specs.Alerts.{alerts_output}
use Rattle.heartbeats.specs.Beats.{beat_output}
use Rattle.supervision.proofs.Steps.{supervises}
use Rattle.supervision.proofs.supervision.SupervisionPartSupervisionPlace.after.Goals as goal

pub watch_after-told-requires : goal.watch_after-told-requires
watch_after-told-requires c =
    record { valid = c.requires.valid; empty = first_empty (alerts_output c.args.place.now.0) (beat_output c.args.place.now.1) c.requires.empty }

pub beats_after-given-requires : goal.beats_after-given-requires
beats_after-given-requires c = record { empty = second_empty (alerts_output c.args.place.now.0) (beat_output c.args.place.now.1) c.requires.empty }

pub returns-then-told-clause-takes : goal.returns-then-told-clause-takes
returns-then-told-clause-takes c =
    supervises c.args.step.now c.args.self.now c.watch_after-told.new.watch c.beats_after-given.new.beats c.is_any_silent-silent.result
    c.watch_after-told.new.place c.beats_after-given.new.place c.watch_after-told.ensures.takes c.is_any_silent-silent.ensures c.beats_after-given.ensures.takes

pub returns-else-told-clause-takes : goal.returns-else-told-clause-takes
returns-else-told-clause-takes c =
    supervises c.args.step.now c.args.self.now c.watch_after-told.new.watch c.beats_after-given.new.beats c.is_any_silent-silent.result
    c.watch_after-told.new.place c.beats_after-given.new.place c.watch_after-told.ensures.takes c.is_any_silent-silent.ensures c.beats_after-given.ensures.takes

pub returns-then-told-clause-said : goal.returns-then-told-clause-said
returns-then-told-clause-said c = λ r settings s h step stood is.
    let beats = c.beats_after-given.new.place in
    said_of_three (alerts_output c.watch_after-told.new.place) (given_output beats.0) (given_output beats.1) ∙ ap (uttered None) is

pub returns-else-told-clause-said : goal.returns-else-told-clause-said
returns-else-told-clause-said c = λ r settings s h step stood is.
    let beats = c.beats_after-given.new.place in
    said_of_three (alerts_output c.watch_after-told.new.place) (given_output beats.0) (given_output beats.1) ∙ ap (uttered None) is
