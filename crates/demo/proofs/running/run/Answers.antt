use Rattle.std.proofs.Common.{◌≡◌, ℕ, ap, subst, ◌∙◌, arith}
use Rattle.gate_outbox.specs.Output.{Output, emits_of}
use Rattle.history.specs.Gate.{gate}
use Rattle.demo.specs.Input.{events}
use Rattle.demo.specs.Setup.{demo_settings}
use Rattle.demo.specs.Tally.{total}
use Rattle.demo.proofs.Runs.{HasRun, next_run, started_run}
use Rattle.demo.proofs.Tallies.{tally_is}
use Rattle.demo.proofs.running.run.Goals as goal

pub loop-number-init : goal.loop-number-init
loop-number-init c = record {
  ran = started_run c.args.seed c.args.gateway.now c.start.new.self c.start.new.out c.new-tally.result c.add_all.new.self c.requires.new c.start.ensures.after
      c.start.ensures.stands (ap (λ (o : Output). emits_of o.emits) c.start.ensures.emits) c.new-tally.ensures c.add_all.ensures.tally;
  few = omega (arith, c.add_all.ensures.few, ap total c.new-tally.ensures);
  before = c.new-input.ensures;
}

pub loop-number-preserved : goal.loop-number-preserved
loop-number-preserved c =
    let next = next_run c.args.seed c.loop-number._number _ c.loop-number.gateway c.take.new.gateway c.loop-number.tally c.take.new.tally c.loop-number.input
    c.next-event.new.self c.loop-number.invariant.ran c.loop-number.invariant.before c.next-event.ensures.next c.take.ensures.run in
    record {
      ran = next.0;
      few = omega (arith, c.take.ensures.few, c.loop-number.invariant.few);
      before = next.1;
    }

pub returns : goal.returns
returns c =
    let all : c.loop-number._number ≡ c.args.count = omega (arith, c.loop-number-test.false, c.loop-number.auto._number-end) in
    let has = subst (λ (k : ℕ). HasRun c.args.seed k c.loop-number.gateway c.loop-number.tally) all c.loop-number.invariant.ran in
    record { stands = has.stands; tally = has.counted ∙ tally_is (gate demo_settings 0 (events c.args.seed c.args.count)) }
