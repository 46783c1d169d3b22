use Rattle.std.proofs.Common.{◌≡◌, ◌∙◌, get_or, sym, arith}
use Rattle.std.specs.Prelude.{codes}
use Rattle.std.specs.Int.{IsInRange}
use Rattle.std.specs.Option.{ForSome}
use Rattle.std.proofs.lemmas.List.Elements.{All-push}
use Rattle.readings.specs.declared.rows.Row.TheVariants as row
use Rattle.readings.specs.Rows.{about_of}
use Rattle.config_document.specs.Places.{place_of}
use Rattle.gate_config.specs.Keys.{limit_of}
use Rattle.gate_config.specs.Reading.{key_prefix}
use Rattle.gate_config.proofs.Each.{one_more}
use Rattle.gate_config.proofs.watch.each_limit.Goals as goal

pub loop-each-preserved : goal.loop-each-preserved
loop-each-preserved c =
    let name = (about_of (get_or c.args.all.now c.loop-each.each-index row.HeadingTrue)).name in
    let prefix : c.as_slice.result.now ≡ key_prefix (codes "row.") name = rw c.name-name.ensures.name at (c.as_slice.ensures.value ∙ c.key_prefix-prefix.ensures) in
    let step =
    one_more (limit_of (place_of c.args.rows.now)) c.loop-each.read.items c.args.all.now c.loop-each.each-index row.HeadingTrue c.in_ok-limit.limit
    (omega arith) (rw (c.name-name.ensures.name, prefix) at c.in_ok-limit.ensures.said) in (
      rw c.push.ensures.items (sym step ∙ c.loop-each.invariant.0),
      omega arith,
      rw c.push.ensures.items
          (All-push (λ limit. ForSome limit (IsInRange 1000 600000)) c.loop-each.read.items c.in_ok-limit.limit c.loop-each.invariant.2 c.in_ok-limit.ensures.valid),
    )
