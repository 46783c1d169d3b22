use Rattle.std.proofs.Common.{refl, sym, ◌∙◌}
use Rattle.std.specs.Prelude.{Ok, Err}
use Rattle.gate_outside.proofs.Arrivals.{arrival_fits}
use Rattle.gate_outside.proofs.Numbered.{still_counted, told_before, told_received}
use Rattle.gate_outside.proofs.mem_link.MemLinkLink.receive.Goals as goal

pub returns-then-failed-clause-after : goal.returns-then-failed-clause-after
returns-then-failed-clause-after c =
    rw (c.stop_if.ensures, c.is_last.ensures, c.count.ensures.numbered, c.is_next-failed.ensures, ← c.self.view_is) refl

pub returns-clause-after : goal.returns-clause-after
returns-clause-after c =
    rw (c.stop_if.ensures, c.is_last.ensures, c.count.ensures.numbered, c.is_next-failed.ensures, ← c.self.view_is) refl

pub returns-then-failed-clause-told : goal.returns-then-failed-clause-told
returns-then-failed-clause-told c =
    told_received c.args.self.now _ c.args.buf.now (Err (record {})) (returns-then-failed-clause-after c) (rw (← c.self.view_is) c.self.invariant.1)
    (rw (← c.self.view_is, ← c.if-failed.ensures) tt)

pub returns-clause-gives : goal.returns-clause-gives
returns-clause-gives c =
    rw (← c.self.view_is, ← c.if-failed.ensures, ← c.deref.ensures.value, ← c.passed-place.ensures) c.arrival_at.ensures

pub returns-clause-told : goal.returns-clause-told
returns-clause-told c =
    told_received c.args.self.now _ c.arrival_at.new.buf (Ok c.arrival_at.result) (returns-clause-after c) (rw (← c.self.view_is) c.self.invariant.1) (returns-clause-gives c)

pub arrival_at-requires : goal.arrival_at-requires
arrival_at-requires c = rw c.deref.ensures.value c.self.invariant.0

pub returns-clause-fits : goal.returns-clause-fits
returns-clause-fits c = arrival_fits c.arrival_at.new.buf _ c.arrival_at.result c.arrival_at.ensures

pub invariant_of-self : goal.invariant_of-self
invariant_of-self c = (
  c.self.invariant.0,
  λ some.
      let told = told_before _ _ (rw c.stop_if.ensures at some) in
      still_counted c.self.inside.receives c.count.new.self (rw c.is_next-failed.ensures at c.count.ensures.numbered) (sym c.is_last.ensures ∙ told.0) (c.self.invariant.1 told.1),
)

pub invariant_of-self-2 : goal.invariant_of-self-2
invariant_of-self-2 c = (
  c.self.invariant.0,
  λ some.
      let told = told_before _ _ (rw c.stop_if.ensures at some) in
      still_counted c.self.inside.receives c.count.new.self (rw c.is_next-failed.ensures at c.count.ensures.numbered) (sym c.is_last.ensures ∙ told.0) (c.self.invariant.1 told.1),
)
