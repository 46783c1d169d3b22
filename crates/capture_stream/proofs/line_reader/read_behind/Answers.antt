use Rattle.std.proofs.Common.{◌+◌, ◌-◌, arith}
use Rattle.capture_stream.proofs.LineReaderLemmas.{reads_behind}
use Rattle.capture_stream.proofs.line_reader.read_behind.Goals as goal

pub returns-clause-bytes : goal.returns-clause-bytes
returns-clause-bytes g c =
    let p = c.piece_len-piece in
    reads_behind (g.S.Source.left c.args.input.now) (g.S.Source.left c.read.new.self) c.args.buffer.now c.read.new.buf c.args.count (c.args.count + p.result - c.args.count)
    c.read.result (omega (arith, p.ensures.within, c.requires.room)) (omega (arith, p.ensures.some)) (omega arith) c.read.ensures.bound c.read.ensures.bytes c.read.ensures.end

pub returns-clause-cause : goal.returns-clause-cause
returns-clause-cause g c = c.read.ensures.cause
