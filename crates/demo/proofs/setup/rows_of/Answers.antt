use Rattle.std.proofs.Common.{arith}
use Rattle.std.proofs.lemmas.List.Elements.{All-push}
use Rattle.readings.specs.declared.rows.Row.TheVariants as row
use Rattle.config_values.specs.Rows.{IsRow}
use Rattle.demo.proofs.Configuring.{one_more_row}
use Rattle.demo.proofs.setup.rows_of.Goals as goal

pub loop-row-preserved : goal.loop-row-preserved
loop-row-preserved c = (
  rw c.push.ensures.items
      (one_more_row c.loop-row.rows.items c.args.all.now c.loop-row.row-index row.HeadingTrue c.row_said.result (omega arith) c.loop-row.invariant.0 c.row_said.ensures.said),
  omega arith,
  rw c.push.ensures.items (All-push IsRow c.loop-row.rows.items c.row_said.result c.loop-row.invariant.2 c.row_said.ensures.valid),
)
