use Rattle.std.specs.Char.{is_ascii_digit}
use Rattle.std.proofs.lemmas.List.Folds.{list_all_more}
use Rattle.capture_text.proofs.time.all_decimal.Goals as goal

pub loop-byte-preserved : goal.loop-byte-preserved
loop-byte-preserved c =
    let e = list_all_more is_ascii_digit c.args.text.now c.loop-byte.byte-index 0 c.loop-byte-test.true in
    cc
