use Rattle.std.proofs.Common.{sym, ◌∙◌, arith}
use Rattle.capture_text.proofs.HexadecimalLemmas.{even_decoded, small_values}
use Rattle.capture_text.proofs.hexadecimal.put_eight.Goals as goal

pub put_pairs-requires-clause-small : goal.put_pairs-requires-clause-small
put_pairs-requires-clause-small c = small_values c.args.digits.now c.put_values.new.room (sym c.all_hexadecimal.ensures ∙ c.if-not-all_hexadecimal.false) c.put_values.ensures

pub returns-clause-bytes : goal.returns-clause-bytes
returns-clause-bytes c = λ e.
    even_decoded c.args.digits.now c.put_pairs.new.room c.put_values.new.room (omega (arith, c.requires.digits)) (sym c.all_hexadecimal.ensures ∙ c.if-not-all_hexadecimal.false) c.put_values.ensures c.put_pairs.ensures

pub returns-clause-digits : goal.returns-clause-digits
returns-clause-digits c = λ e. sym c.all_hexadecimal.ensures ∙ c.if-not-all_hexadecimal.false
