use Rattle.std.proofs.Common.{◌∙◌, List, ℕ, length, sym, ap, arith}
use Rattle.std.specs.Prelude.{Some}
use Rattle.gate_outside.specs.LinkMemory.{arrival_of}
use Rattle.gate_outside.proofs.Arrivals.{arrival_past, arrival_here, whole_arrival, no_arrival}
use Rattle.gate_outside.proofs.incoming.arrival_at.Goals as goal

pub returns-then-place-script : goal.returns-then-place-script
returns-then-place-script c = no_arrival c.args.buf.now _ (arrival_past c.args.script.now c.args.place (omega arith))

pub returns-in-None : goal.returns-in-None
returns-in-None c = no_arrival c.args.buf.now _ (arrival_here c.args.script.now c.args.place c.index-script-place.result (omega arith) c.index-script-place.is ∙ ap arrival_of c.in-None.is)

pub returns-in-Some : goal.returns-in-Some
returns-in-Some c =
    let copied = c.copy_from_slice.ensures.after ∙ c.deref.ensures.value in
    let there = arrival_here c.args.script.now c.args.place c.index-script-place.result (omega arith) c.index-script-place.is ∙ (ap arrival_of c.in-Some.is ∙ ap (λ (bs : List ℕ). Some bs) (sym copied)) in
    whole_arrival c.copy_from_slice.new.self _ c.len-in-Some.result _ there (omega (arith, ap length copied))
