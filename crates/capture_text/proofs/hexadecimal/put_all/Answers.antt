use Rattle.std.proofs.Common.{refl, arith}
use Rattle.capture_text.proofs.HexadecimalLemmas.{all_put, none_put}
use Rattle.capture_text.proofs.hexadecimal.put_all.Goals as goal

pub returns-in-Ok-clause-put : goal.returns-in-Ok-clause-put
returns-in-Ok-clause-put c = λ _.
    all_put c.args.digits.now c.put_eights-done.new.room _ c.put_eights-done.result _ c.decode_to_slice.result c.decode_to_slice.new.out
    (record { rest_is = refl; n_is = refl; fits = omega (arith, c.requires, c.put_eights-done.auto.room); within = omega (arith, c.put_eights-done.ensures.within, c.put_eights-done.auto.room); front = c.put_eights-done.ensures.bytes; tells = c.decode_to_slice.ensures.value })
    c.in-Ok.is

pub returns-in-Err-clause-none : goal.returns-in-Err-clause-none
returns-in-Err-clause-none c = λ _.
    none_put c.args.digits.now c.put_eights-done.new.room _ c.put_eights-done.result _ c.decode_to_slice.result c.decode_to_slice.new.out c.in-Err.field-0
    (record { rest_is = refl; n_is = refl; fits = omega (arith, c.requires, c.put_eights-done.auto.room); within = omega (arith, c.put_eights-done.ensures.within, c.put_eights-done.auto.room); front = c.put_eights-done.ensures.bytes; tells = c.decode_to_slice.ensures.value })
    c.in-Err.is
