use Rattle.std.proofs.Common.{◌≡◌, Some, decimal, sym, ap, ◌∙◌}
use Rattle.command_line.proofs.Numbers.{never_err, parsed, same_ok}
use Rattle.command_line.proofs.numerals.number_of.Goals as goal

pub returns-in-Ok-clause-only : goal.returns-in-Ok-clause-only
returns-in-Ok-clause-only c = λ n fits written.
    let same : c.in-Ok.number ≡ n = same_ok c.in-Ok.number n c.parse.result c.in-Ok.is (parsed n c.args.word.now c.parse.result fits written c.parse.ensures.value.0) in ap Some same

pub returns-in_default-clause-only : goal.returns-in_default-clause-only
returns-in_default-clause-only c = λ n fits written.
    let same : c.in-Ok.number ≡ n = same_ok c.in-Ok.number n c.parse.result c.in-Ok.is (parsed n c.args.word.now c.parse.result fits written c.parse.ensures.value.0) in
    let spelled = c.is_spelled.ensures.1 (written ∙ ap decimal (sym same)) in
    let is = sym c.if-is_spelled.false ∙ spelled in absurd cc

pub returns-in_default-2-clause-only : goal.returns-in_default-2-clause-only
returns-in_default-2-clause-only c = λ n fits written. absurd (never_err c.in_default.field-0 n (parsed n c.args.word.now _ fits written c.in_default.ensures.value.0))
