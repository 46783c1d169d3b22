use Rattle.std.proofs.Common.{refl}
use Rattle.std.specs.Prelude.{Ok, Err}
use Rattle.gate_outside.proofs.Numbered.{raised, stayed, told_before, told_before_more, told_sent}
use Rattle.gate_outside.proofs.mem_link.MemLinkLink.send.Goals as goal

pub returns-then-failed-clause-after : goal.returns-then-failed-clause-after
returns-then-failed-clause-after c =
    rw (c.stop_if.ensures, c.is_last.ensures, c.count.ensures.numbered, c.is_next-failed.ensures, ← c.self.view_is, ← c.if-failed.ensures) refl

pub returns-then-failed-clause-told : goal.returns-then-failed-clause-told
returns-then-failed-clause-told c =
    told_sent c.args.self.now _ (c.args.group, c.args.bytes.now) (Err (record {})) (returns-then-failed-clause-after c) (rw (← c.self.view_is, ← c.if-failed.ensures) tt)

pub returns-clause-after : goal.returns-clause-after
returns-clause-after c =
    rw (c.add.ensures, c.stop_if.ensures, c.is_last.ensures, c.count.ensures.numbered, c.is_next-failed.ensures, ← c.self.view_is, ← c.if-failed.ensures) refl

pub returns-clause-told : goal.returns-clause-told
returns-clause-told c =
    told_sent c.args.self.now _ (c.args.group, c.args.bytes.now) (Ok tt) (returns-clause-after c) (rw (← c.self.view_is, ← c.if-failed.ensures) tt)

pub returns-then-failed-clause-cause : goal.returns-then-failed-clause-cause
returns-then-failed-clause-cause c =
    rw (c.count.ensures.numbered, c.is_next-failed.ensures, ← c.self.view_is, ← c.if-failed.ensures) (raised _ _ _)

pub returns-clause-cause : goal.returns-clause-cause
returns-clause-cause c =
    rw (c.count.ensures.numbered, c.is_next-failed.ensures, ← c.self.view_is, ← c.if-failed.ensures) (stayed _ _)

pub invariant_of-self : goal.invariant_of-self
invariant_of-self c = (c.self.invariant.0, λ some. c.self.invariant.1 (told_before _ _ (rw c.stop_if.ensures at some)).1)

pub invariant_of-self-2 : goal.invariant_of-self-2
invariant_of-self-2 c = (
  c.self.invariant.0,
  λ some.
      let over = c.stop_if.new.self in
      let more = told_before_more over.handed over.room over.most (c.args.group, c.args.bytes.now) (rw c.add.ensures at some) in
      c.self.invariant.1 (told_before _ _ (rw c.stop_if.ensures at more)).1,
)
