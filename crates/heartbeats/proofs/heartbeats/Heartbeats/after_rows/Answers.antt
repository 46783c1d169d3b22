use Rattle.parts.proofs.Empty.{first_empty, second_empty}
use Rattle.parts.specs.Lanes.{given_output}
use Rattle.heartbeats.proofs.Steps.{beats_take}
use Rattle.heartbeats.proofs.heartbeats.Heartbeats.after_rows.Goals as goal

pub after_event-said-requires : goal.after_event-said-requires
after_event-said-requires c = record { empty = first_empty (given_output c.args.place.now.0) (given_output c.args.place.now.1) c.requires.empty }

pub after_event-sent-requires : goal.after_event-sent-requires
after_event-sent-requires c = record { empty = second_empty (given_output c.args.place.now.0) (given_output c.args.place.now.1) c.requires.empty }

pub returns-then-said-clause-takes : goal.returns-then-said-clause-takes
returns-then-said-clause-takes c =
    beats_take c.args.step.now c.args.is_silent c.args.self.now c.after_event-said.new.beats c.after_event-sent.new.beats c.after_event-said.new.place
    c.after_event-sent.new.place c.after_event-said.ensures.takes c.after_event-sent.ensures.takes

pub returns-else-said-clause-takes : goal.returns-else-said-clause-takes
returns-else-said-clause-takes c =
    beats_take c.args.step.now c.args.is_silent c.args.self.now c.after_event-said.new.beats c.after_event-sent.new.beats c.after_event-said.new.place
    c.after_event-sent.new.place c.after_event-said.ensures.takes c.after_event-sent.ensures.takes
