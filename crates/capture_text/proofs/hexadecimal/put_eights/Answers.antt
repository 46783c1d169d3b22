use Rattle.std.proofs.Common.{◌-◌, ◌+◌, sym, ap, ◌∙◌, refl, arith, List, ℕ, Ok}
use Rattle.std.proofs.lemmas.Slice.{take-put_mid_below}
use Rattle.capture_text.proofs.HexadecimalLemmas.{some_more}
use Rattle.capture_text.proofs.hexadecimal.put_eights.Goals as goal

pub loop-room-init : goal.loop-room-init
loop-room-init c = (omega (arith, c.put_sixteens-done.ensures.within, c.put_sixteens-done.auto.room), c.put_sixteens-done.ensures.bytes)

pub returns-then-not-put_eight-clause-bytes : goal.returns-then-not-put_eight-clause-bytes
returns-then-not-put_eight-clause-bytes c =
    c.loop-room.invariant.1
    ∙ ap (λ (x : List ℕ). Ok x) (sym (take-put_mid_below c.loop-room.done (c.loop-room.done + 8 - c.loop-room.done) c.loop-room.room c.put_eight.new.room c.loop-room.done (omega arith) c.loop-room.invariant.0))

pub loop-room-smaller : goal.loop-room-smaller
loop-room-smaller c = omega arith

pub loop-room-preserved : goal.loop-room-preserved
loop-room-preserved c = (
  omega arith,
  some_more c.args.digits.now c.loop-room.room c.put_eight.new.room c.loop-room.done 8 _ c.loop-room.invariant.0 (omega arith) refl c.loop-room.invariant.1 (c.put_eight.ensures.bytes c.if-not-put_eight.false),
)
