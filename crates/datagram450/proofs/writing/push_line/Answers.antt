use Rattle.std.proofs.Common.{refl}
use Rattle.tag_block.specs.Tag.{block_text}
use Rattle.tag_block.specs.Writing.{block_of, said_by}
use Rattle.datagram450.specs.Datagram.{LineOf, line_text}
use Rattle.datagram450.proofs.LinePlaces.{appended}
use Rattle.datagram450.proofs.writing.push_line.Goals as goal

pub returns-clause-again : goal.returns-clause-again
returns-clause-again c = λ lines tail parts done h behind short.
    let tag = c.args.tag.now in
    let text = c.args.sentence.now in
    let is : LineOf (said_by tag) text parts (line_text tag text) = record { front = block_text (block_of tag); tag = c.append_line.ensures.grammar; sentence = h; spelled = refl } in
    appended (said_by tag) text parts (line_text tag text) lines tail c.args.out.now.items c.append_line.new.out.items is (c.append_line.ensures.written done) behind.spelled behind.each behind.few short

pub returns-clause-fits : goal.returns-clause-fits
returns-clause-fits c = c.append_line.ensures.fits

pub returns-clause-written : goal.returns-clause-written
returns-clause-written c = c.append_line.ensures.written

pub returns-clause-room : goal.returns-clause-room
returns-clause-room c = c.append_line.ensures.room
