use Rattle.gate_core.specs.Changes.{changed_of}
use Rattle.gate_core.specs.Steps.{entry_of}
use Rattle.gate_core.proofs.Entering.{entered_after, entered_output}
use Rattle.gate_core.proofs.state.State.enter.Goals as goal

pub returns-clause-after : goal.returns-clause-after
returns-clause-after c =
    entered_after c.args.self.now c.pass_time.new.self (entry_of c.args.event.now) c.args.moment c.requires.moment c.pass_time.ensures.after
    c.handle-changed.new.self c.count_entry.new.self (changed_of c.handle-changed.result) c.handle-changed.ensures.after c.handle-changed.ensures.changed
    c.count_entry.ensures

pub returns-clause-output : goal.returns-clause-output
returns-clause-output c =
    entered_output c.args.self.now c.pass_time.new.self (entry_of c.args.event.now) c.args.moment c.requires.moment c.pass_time.ensures.after
    c.out.inside.emits c.pass_time.new.out c.out.inside.done c.out.inside.selected c.out.inside.command c.args.out.now c.handle-changed.new.out c.out.view_is
    c.pass_time.ensures.emits c.handle-changed.ensures.output
