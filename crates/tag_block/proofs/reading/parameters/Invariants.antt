use Rattle.std.proofs.Common.{length}
use Rattle.tag_block.specs.Reading.{scan}
use Rattle.tag_block.proofs.Loops.{Parameters}
use Rattle.tag_block.proofs.Sum.{Summed}
use Rattle.tag_block.proofs.reading.parameters.Given as goal

abbrev pub invariant-loop-next : goal.invariant-loop-next
invariant-loop-next l = record {
  reads : Parameters l.total (scan l.fn.scan) (scan l.content.scan);
  sum : Summed l.fn.scan.rest.now l.content.scan.rest.now l.content.sum;
}

abbrev pub decreases-loop-next : goal.decreases-loop-next
decreases-loop-next l = length l.content.scan.rest.now
