use Rattle.std.proofs.Common.{◌≡◌, ◌∙◌, get_or, sym, arith}
use Rattle.std.specs.Prelude.{codes}
use Rattle.std.proofs.lemmas.List.Elements.{All-push}
use Rattle.readings.specs.declared.rows.Row.TheVariants as row
use Rattle.readings.specs.Rows.{about_of}
use Rattle.config_document.specs.Places.{place_of}
use Rattle.config_values.specs.Rows.{IsRow}
use Rattle.gate_config.specs.Keys.{row_of}
use Rattle.gate_config.specs.Reading.{key_prefix}
use Rattle.gate_config.proofs.Each.{one_more}
use Rattle.gate_config.proofs.rows.each_row.Goals as goal

pub loop-each-preserved : goal.loop-each-preserved
loop-each-preserved c =
    let name = (about_of (get_or c.args.all.now c.loop-each.each-index row.HeadingTrue)).name in
    let prefix : c.as_slice.result.now ≡ key_prefix (codes "row.") name = rw c.name-name.ensures.name at (c.as_slice.ensures.value ∙ c.key_prefix-prefix.ensures) in
    let step =
    one_more (row_of c.args.group (place_of c.args.rows.now)) c.loop-each.read.items c.args.all.now c.loop-each.each-index row.HeadingTrue c.in_ok-row.row
    (omega arith) (rw (c.name-name.ensures.name, c.talker.ensures.talker, prefix) at c.in_ok-row.ensures.said) in (
      rw c.push.ensures.items (sym step ∙ c.loop-each.invariant.0),
      omega arith,
      rw c.push.ensures.items (All-push IsRow c.loop-each.read.items c.in_ok-row.row c.loop-each.invariant.2 c.in_ok-row.ensures.valid),
    )
