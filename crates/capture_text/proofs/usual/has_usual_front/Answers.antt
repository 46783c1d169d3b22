use Rattle.std.proofs.Common.{arith, sym, ◌∙◌}
use Rattle.std.proofs.lemmas.List.{length-take}
use Rattle.capture_text.proofs.UsualFront.{front_bus, front_mark, front_no_controls, front_time}
use Rattle.capture_text.proofs.usual.has_usual_front.Goals as goal

pub slice_bounds-is_front-end : goal.slice_bounds-is_front-end
slice_bounds-is_front-end c = omega (arith, length-take 48 c.args.line.now, c.requires)

pub returns-then-is_front-clause-time : goal.returns-then-is_front-clause-time
returns-then-is_front-clause-time c = λ e. front_time c.args.line.now c.requires (c.is_front.ensures c.if-is_front.true)

pub returns-then-is_front-clause-bus : goal.returns-then-is_front-clause-bus
returns-then-is_front-clause-bus c = λ e. front_bus c.args.line.now c.requires (c.is_front.ensures c.if-is_front.true) (sym c.is_bus.ensures ∙ e)

pub returns-then-is_front-clause-mark : goal.returns-then-is_front-clause-mark
returns-then-is_front-clause-mark c = λ e. front_mark c.args.line.now c.requires (c.is_front.ensures c.if-is_front.true)

pub returns-then-is_front-clause-no_controls : goal.returns-then-is_front-clause-no_controls
returns-then-is_front-clause-no_controls c = λ e. front_no_controls c.args.line.now c.requires (c.is_front.ensures c.if-is_front.true)
