use Rattle.std.proofs.Common.{◌≡◌, ℕ, ◌+◌, List, refl, ap, ◌∙◌, arith, drop, length, take}
use Rattle.std.proofs.lemmas.List.{length-map, take_all}
use Rattle.gate_events.specs.Emit.{Emit}
use Rattle.gate_outbox.specs.Output.{emits_of}
use Rattle.history.specs.Emits.{at}
use Rattle.demo.specs.declared.tally.Tally.{Tally}
use Rattle.demo.specs.Tally.{and_all, total}
use Rattle.demo.proofs.Tallies.{next_counted, total_all, total_front}
use Rattle.demo.proofs.tally.Tally.add_all.Goals as goal

pub add_at-requires : goal.add_at-requires
add_at-requires c =
    let front = total_front c.args.self.now c.args.moment c.loop-place.place (emits_of c.args.emits.now.emits) in
    let is = ap total c.loop-place.invariant.counted in
    omega (arith, front, is, c.requires, c.loop-place.invariant.most)

pub loop-place-init : goal.loop-place-init
loop-place-init c = record { counted = refl; most = c.len-place-end.ensures.output.most }

pub loop-place-preserved : goal.loop-place-preserved
loop-place-preserved c = record {
  counted = c.add_at.ensures
      ∙ ap (λ (t : Tally). and_all t (at c.args.moment (take 1 (drop c.loop-place.place (emits_of c.args.emits.now.emits)))))
      c.loop-place.invariant.counted
      ∙ next_counted c.args.self.now c.args.moment c.loop-place.place (emits_of c.args.emits.now.emits);
  most = c.loop-place.invariant.most;
}

pub returns : goal.returns
returns c =
    let done : c.loop-place.self ≡ and_all c.args.self.now (at c.args.moment (emits_of c.args.emits.now.emits)) =
    c.loop-place.invariant.counted ∙ ap (λ (es : List Emit). and_all c.args.self.now (at c.args.moment es)) (take_all c.loop-place.place (emits_of c.args.emits.now.emits) (omega (arith, c.loop-place-test.false, c.len-place-end.ensures.len))) in
    let all : total c.loop-place.self ≡ total c.args.self.now + length (emits_of c.args.emits.now.emits) =
    ap total done ∙ total_all c.args.self.now (at c.args.moment (emits_of c.args.emits.now.emits))
    ∙ ap (λ (n : ℕ). total c.args.self.now + n) (length-map (emits_of c.args.emits.now.emits) _) in
    record { tally = done; few = omega (arith, all, c.loop-place.invariant.most) }
