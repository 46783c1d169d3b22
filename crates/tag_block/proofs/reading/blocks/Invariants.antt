use Rattle.std.proofs.Common.{length}
use Rattle.tag_block.specs.Reading.{scan}
use Rattle.tag_block.proofs.Loops.{Blocks}
use Rattle.tag_block.proofs.reading.blocks.Given as goal

abbrev pub invariant-loop-scan : goal.invariant-loop-scan
invariant-loop-scan l = Blocks l.total (scan l.fn.scan) (scan l.scan)

abbrev pub decreases-loop-scan : goal.decreases-loop-scan
decreases-loop-scan l = length l.scan.rest.now
