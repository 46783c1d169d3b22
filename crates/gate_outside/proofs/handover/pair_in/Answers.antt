use Rattle.std.proofs.Common.{◌+◌, ◌-◌, sym, arith}
use Rattle.gate_outside.proofs.Pairs.{pair_here}
use Rattle.gate_outside.proofs.handover.pair_in.Goals as goal

pub returns : goal.returns
returns c =
    let p = c.index-parcels-place.result in
    sym (pair_here c.args.parcels.now c.args.bytes.now c.args.place c.start_of-start.result (c.start_of-start.result + p.len - c.start_of-start.result) p (omega arith) c.index-parcels-place.is c.start_of-start.ensures (omega arith))
