use Rattle.std.proofs.Common.{sym, ◌∙◌, arith}
use Rattle.std.proofs.lemmas.List.{length-take}
use Rattle.capture_text.proofs.Cuts.{within}
use Rattle.capture_text.proofs.Times.{seconds_told, ten_counted}
use Rattle.capture_text.proofs.time.seconds.Goals as goal

pub number-requires-clause-digits : goal.number-requires-clause-digits
number-requires-clause-digits c = (ten_counted c.args.text.now c.digit_run-count.result c.digit_run-count.ensures).0

pub number-requires-clause-fits : goal.number-requires-clause-fits
number-requires-clause-fits c = omega (arith, (ten_counted c.args.text.now c.digit_run-count.result c.digit_run-count.ensures).1)

pub returns-clause-few : goal.returns-clause-few
returns-clause-few c = omega (arith, c.number.ensures, (ten_counted c.args.text.now c.digit_run-count.result c.digit_run-count.ensures).1)

pub returns-clause-reads : goal.returns-clause-reads
returns-clause-reads c =
    seconds_told c.args.text.now _ _ c.digit_run-count.ensures c.if-count-lt1.false (sym c.byte_at.ensures ∙ c.if-byte_at-ne46.false) c.number.ensures

pub slice_bounds-number-end : goal.slice_bounds-number-end
slice_bounds-number-end c =
    let here = within c.args.text.now _ 45 (sym c.byte_at.ensures ∙ c.if-byte_at-ne46.false) in
    omega (arith, length-take c.digit_run-count.result c.args.text.now)

pub overflow_add-result : goal.overflow_add-result
overflow_add-result c = omega (arith, within c.args.text.now _ 45 (sym c.byte_at.ensures ∙ c.if-byte_at-ne46.false))

pub slice_bounds-result-start : goal.slice_bounds-result-start
slice_bounds-result-start c = omega (arith, within c.args.text.now _ 45 (sym c.byte_at.ensures ∙ c.if-byte_at-ne46.false))
