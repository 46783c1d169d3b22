use Rattle.std.proofs.Common.{sym, ◌∙◌, arith}
use Rattle.capture_text.proofs.Times.{both_digits}
use Rattle.capture_text.proofs.time.has_usual_time.Goals as goal

pub returns : goal.returns
returns c = λ all. (
  omega arith,
  (c.if-line-ne40.false, c.if-line-ne46.false, c.if-line-ne41.false, c.if-line-ne32.false),
  both_digits c.args.line.now _ c.usual_digits.ensures (sym c.all_decimal.ensures ∙ all),
)
