use Rattle.tag_block.specs.Tag.{is_code_byte}
use Rattle.tag_block.proofs.Run.{Run}
use Rattle.tag_block.proofs.byte.code_run.Given as goal

abbrev pub invariant-loop-count : goal.invariant-loop-count
invariant-loop-count l = Run is_code_byte l.text l.before l.count l.sum
