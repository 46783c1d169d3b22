use Rattle.std.proofs.Common.{◌≡◌, arith, slice_index}
use Rattle.tag_block.specs.Reading.{scan}
use Rattle.tag_block.proofs.Loops.{blocks_go_on, blocks_fail, blocks_end}
use Rattle.tag_block.proofs.reading.blocks.Goals as goal

pub returns-in-Err-clause-reads : goal.returns-in-Err-clause-reads
returns-in-Err-clause-reads c =
    let begins : slice_index c.loop-scan.scan.rest.now 0 ≡ 92 = omega (arith, c.byte_at.ensures, c.loop-scan-test.true) in
    blocks_fail c.args.total (scan c.args.scan) (scan c.loop-scan.scan) c.in-Err.fault c.loop-scan.invariant begins (rw c.split_at.ensures.back at c.in-Err.ensures.reads)

pub loop-scan-preserved : goal.loop-scan-preserved
loop-scan-preserved c =
    let begins : slice_index c.loop-scan.scan.rest.now 0 ≡ 92 = omega (arith, c.byte_at.ensures, c.loop-scan-test.true) in
    blocks_go_on c.args.total (scan c.args.scan) (scan c.loop-scan.scan) (scan c.in-Ok.next) c.loop-scan.invariant begins (rw c.split_at.ensures.back at c.in-Ok.ensures.reads) (rw c.split_at.ensures.back at c.in-Ok.ensures.shorter)

pub returns-clause-reads : goal.returns-clause-reads
returns-clause-reads c =
    blocks_end c.args.total (scan c.args.scan) (scan c.loop-scan.scan) c.loop-scan.invariant (λ e. omega (arith, c.byte_at.ensures, c.loop-scan-test.false, e))
