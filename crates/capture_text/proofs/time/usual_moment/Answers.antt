use Rattle.std.proofs.Common.{drop, arith}
use Rattle.capture_text.proofs.Digits.{ten_fit}
use Rattle.capture_text.proofs.Times.{micros_small, usual_read}
use Rattle.capture_text.proofs.time.usual_moment.Goals as goal

pub number-requires-clause-fits : goal.number-requires-clause-fits
number-requires-clause-fits c = omega (arith, ten_fit (drop 1 c.args.line.now) c.requires.2.0)

pub number-requires-2-clause-fits : goal.number-requires-2-clause-fits
number-requires-2-clause-fits c = micros_small c.args.line.now c.number.result c.requires c.number.ensures

pub returns : goal.returns
returns c = usual_read c.args.line.now c.number.result c.number-2.result c.requires c.number.ensures c.number-2.ensures
