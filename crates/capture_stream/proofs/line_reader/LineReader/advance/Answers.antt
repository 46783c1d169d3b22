use Rattle.capture_stream.proofs.LineReaderLemmas.{usual_advances}
use Rattle.capture_stream.proofs.line_reader.LineReader.advance.Goals as goal

pub returns-in-Some : goal.returns-in-Some
returns-in-Some c =
    let taken = c.take_line-line.ensures in
    usual_advances c.args.self.now c.take_line-line.new.self c.in-Some.moment c.in-Some.frame c.in-Some.ensures taken.line taken.rest taken.starts
