use Rattle.std.proofs.Common.{Some, take, sym, ap, ◌∙◌}
use Rattle.capture_text.proofs.HexadecimalLemmas.{no_number, number_decoded, small_values}
use Rattle.capture_text.proofs.hexadecimal.number.Goals as goal

pub returns-then-not-all_hexadecimal : goal.returns-then-not-all_hexadecimal
returns-then-not-all_hexadecimal c = sym (no_number c.args.digits.now c.requires (sym c.all_hexadecimal.ensures ∙ c.if-not-all_hexadecimal.true))

pub put_pairs-requires-clause-small : goal.put_pairs-requires-clause-small
put_pairs-requires-clause-small c = small_values (take 8 c.args.digits.now) c.put_values.new.room (sym c.all_hexadecimal.ensures ∙ c.if-not-all_hexadecimal.false) c.put_values.ensures

pub returns : goal.returns
returns c =
    let decoded = number_decoded c.args.digits.now c.put_pairs.new.room c.put_values.new.room c.requires (sym c.all_hexadecimal.ensures ∙ c.if-not-all_hexadecimal.false) c.put_values.ensures c.put_pairs.ensures in
    sym (decoded ∙ ap Some (sym c.from_be_bytes.ensures))
