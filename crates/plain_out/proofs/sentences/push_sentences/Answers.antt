use Rattle.std.proofs.Common.{ap, length, arith}
use Rattle.plain_out.proofs.Lengths.{sentences_short}
use Rattle.plain_out.proofs.sentences.push_sentences.Goals as goal

pub push_all-requires : goal.push_all-requires
push_all-requires c =
    omega (arith, sentences_short c.in-Ok.items c.args.datagram.now c.in-Ok.ensures.found, c.requires.few, ap length c.requires.empty)
