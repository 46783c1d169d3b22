use Rattle.std.proofs.Common.{List, ap, sym, ◌∙◌}
use Rattle.gate_outbox.specs.Output.{emit_of, emits_of}
use Rattle.gate_events.specs.Emit.{Emit}
use Rattle.history.specs.Emits.{at}
use Rattle.demo.specs.Tally.{and_all}
use Rattle.demo.proofs.Tallies.{one_at}
use Rattle.demo.proofs.tally.Tally.add_at.Goals as goal

pub returns-in-Some : goal.returns-in-Some
returns-in-Some c =
    c.add.ensures
    ∙ ap (λ (es : List Emit). and_all c.args.self.now (at c.args.moment es))
    (one_at c.args.place (emits_of c.args.emits.now.emits) (emit_of c.in-Some.emit) (sym c.in-Some.ensures.emit))
