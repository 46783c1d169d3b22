use Rattle.std.proofs.Common.{◌++◌, ◌-◌, ◌%◌, ◌/◌, ◌^◌, nat_eq, refl, arith}
use Rattle.ais_report.specs.Bits.{bits_of}
use Rattle.ais_report.proofs.BitLemmas.{one_less, one_longer}
use Rattle.ais_report.proofs.bits.append_bits.Goals as goal

pub loop-left-preserved : goal.loop-left-preserved
loop-left-preserved c = let bit = nat_eq (c.args.number / 2 ^ (c.loop-left.left - 1) % 2) 1 in record {
  whole = one_less c.loop-left.out.items c.push.new.self.items (c.args.out.now.items ++ bits_of c.args.width c.args.number) bit c.loop-left.left
      c.args.number (omega (arith, c.loop-left-test.true)) c.push.ensures.items refl c.loop-left.invariant.whole;
  width = omega (arith, c.loop-left.invariant.width);
  room = omega (arith, one_longer c.loop-left.out.items c.push.new.self.items bit c.push.ensures.items, c.loop-left.invariant.room, c.loop-left-test.true);
}
