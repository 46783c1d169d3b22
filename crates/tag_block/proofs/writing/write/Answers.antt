use Rattle.tag_block.specs.Tag.{block_text}
use Rattle.tag_block.specs.Writing.{block_of, said_by}
use Rattle.tag_block.proofs.Laws.{is_read}
use Rattle.tag_block.proofs.Written.{written}
use Rattle.tag_block.proofs.writing.write.Goals as goal

pub returns-clause-grammar : goal.returns-clause-grammar
returns-clause-grammar c = written c.args.parts.now c.requires c.block.ensures.sfi

pub returns-clause-again : goal.returns-clause-again
returns-clause-again c = λ rest stops. is_read (said_by c.args.parts.now) (block_text (block_of c.args.parts.now)) rest (returns-clause-grammar c) stops
