use Rattle.std.proofs.Common.{◌≡◌, arith, slice_index}
use Rattle.tag_block.specs.Reading.{scan}
use Rattle.tag_block.proofs.Loops.{parameters_go_on, parameters_fail, parameters_end}
use Rattle.tag_block.proofs.Sum.{summed_between, summed_byte, summed_parameter}
use Rattle.tag_block.proofs.reading.parameters.Goals as goal

pub returns-in-Err-clause-reads : goal.returns-in-Err-clause-reads
returns-in-Err-clause-reads c =
    parameters_fail c.args.total (scan c.args.scan) (scan c.loop-next.content.scan) c.in-Err.fault c.loop-next.invariant.reads c.in-Err.ensures.reads

pub returns-then-byte_at-ne44-clause-reads : goal.returns-then-byte_at-ne44-clause-reads
returns-then-byte_at-ne44-clause-reads c =
    parameters_end c.args.total (scan c.args.scan) (scan c.loop-next.content.scan) (scan c.in-Ok.next.scan) c.loop-next.invariant.reads c.in-Ok.ensures.reads (λ e. omega (arith, c.byte_at.ensures, c.if-byte_at-ne44.true, e))

pub returns-then-byte_at-ne44-clause-sum : goal.returns-then-byte_at-ne44-clause-sum
returns-then-byte_at-ne44-clause-sum c =
    let summed = summed_parameter c.args.total c.args.scan.rest.now (scan c.loop-next.content.scan) (scan c.in-Ok.next.scan) c.loop-next.content.sum c.in-Ok.next.sum c.in-Ok.ensures.reads c.in-Ok.ensures.sum c.loop-next.invariant.sum in
    summed_between c.args.scan.rest.now c.in-Ok.next.scan.rest.now c.in-Ok.next.sum summed

pub loop-next-preserved : goal.loop-next-preserved
loop-next-preserved c =
    let comma : slice_index c.in-Ok.next.scan.rest.now 0 ≡ 44 = omega (arith, c.byte_at.ensures, c.if-byte_at-ne44.false) in
    let summed = summed_parameter c.args.total c.args.scan.rest.now (scan c.loop-next.content.scan) (scan c.in-Ok.next.scan) c.loop-next.content.sum c.in-Ok.next.sum c.in-Ok.ensures.reads c.in-Ok.ensures.sum c.loop-next.invariant.sum in
    rw c.split_at.ensures.back record {
      reads = parameters_go_on c.args.total (scan c.args.scan) (scan c.loop-next.content.scan) (scan c.in-Ok.next.scan) c.loop-next.invariant.reads c.in-Ok.ensures.reads c.in-Ok.ensures.shorter comma;
      sum = summed_byte c.args.scan.rest.now c.in-Ok.next.scan.rest.now 43 c.in-Ok.next.sum comma summed;
    }
