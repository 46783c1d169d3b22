use Rattle.std.proofs.Common.{sym, ◌∙◌}
use Rattle.capture_text.proofs.Times.{micros_told, six_counted}
use Rattle.capture_text.proofs.time.moment.Goals as goal

pub number-requires-clause-digits : goal.number-requires-clause-digits
number-requires-clause-digits c = (six_counted c.args.seconds c.args.text.now c.requires (sym c.digit_run.ensures ∙ c.if-digit_run-ne6.false)).0

pub number-requires-clause-fits : goal.number-requires-clause-fits
number-requires-clause-fits c = (six_counted c.args.seconds c.args.text.now c.requires (sym c.digit_run.ensures ∙ c.if-digit_run-ne6.false)).1

pub returns : goal.returns
returns c = record {
  reads = micros_told c.args.seconds c.args.text.now _ (sym c.digit_run.ensures ∙ c.if-digit_run-ne6.false) (sym c.byte_at.ensures ∙ c.if-byte_at-ne41.false)
      (sym c.byte_at-else-byte_at-ne41.ensures ∙ c.if-byte_at-ne32.false) c.number.ensures;
}
