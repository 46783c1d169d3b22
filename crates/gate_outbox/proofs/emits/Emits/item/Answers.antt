-- The emit at a place is the datagram, or one of those that are told.
use Rattle.std.proofs.Common.{◌≡◌, Some, option_map, sym, ◌∙◌, arith}
use Rattle.std.specs.Prelude.{slice_get}
use Rattle.gate_events.specs.declared.emit.Emit.TheVariants as lent
use Rattle.gate_events.specs.Emit.{net}
use Rattle.gate_outbox.specs.Output.{emit_of, emits_of}
use Rattle.gate_outbox.proofs.Items.{posted_at, told_at, within}
use Rattle.gate_outbox.proofs.emits.Emits.item.Goals as goal

pub returns-then-posts_at : goal.returns-then-posts_at
returns-then-posts_at g c =
    let n = c.self.inside in
    let here = rw (← c.self.view_is) at (sym c.posts_at.ensures ∙ c.if-posts_at.true) in
    let emit : Some (net n.datagram.group c.as_slice.result.now) ≡ slice_get (emits_of c.args.self.now) c.args.place =
    rw (← c.self.view_is, c.as_slice.ensures.value) (posted_at n.kept n.datagram c.args.place n.posted here) in
    record {
      emit = emit;
      beyond = within (Some (lent.Net n.datagram.group c.as_slice.result)) (emits_of c.args.self.now) c.args.place emit;
      valid = omega arith;
    }

pub returns-else-posts_at : goal.returns-else-posts_at
returns-else-posts_at g c =
    let n = c.self.inside in
    let apart = rw (← c.self.view_is) at (sym c.posts_at.ensures ∙ c.if-posts_at.false) in
    let emit : option_map emit_of c.get.result ≡ slice_get (emits_of c.args.self.now) c.args.place =
    rw (← c.self.view_is)
    (c.get.ensures.emit ∙ told_at n.kept n.datagram c.args.place n.posted apart) in
    record { emit = emit; beyond = within c.get.result (emits_of c.args.self.now) c.args.place emit; valid = c.get.ensures.valid }
