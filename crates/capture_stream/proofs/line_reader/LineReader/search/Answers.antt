use Rattle.capture_stream.proofs.LineReaderLemmas.{advances}
use Rattle.capture_stream.proofs.line_reader.LineReader.search.Goals as goal

pub returns-in-Some : goal.returns-in-Some
returns-in-Some c =
    let found = c.in-Some.ensures in
    let taken = c.take_line.ensures in
    advances c.args.self.now c.take_line.new.self c.unread-unread.result.now c.in-Some.at c.line_len-len.result c.take_line.result c.unread-unread.ensures found.0 found.1 found.2 c.line_len-len.ensures.bound c.line_len-len.ensures.line taken.line taken.rest taken.starts taken.answer
