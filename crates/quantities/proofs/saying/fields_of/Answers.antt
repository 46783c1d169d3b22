use Rattle.quantities.proofs.Columns.{printable_at}
use Rattle.quantities.proofs.saying.fields_of.Goals as goal

pub field-requires : goal.field-requires
field-requires c = printable_at c.args.values.now c.args.columns.now c.loop-column.column-index _ c.loop-column-test.true c.requires.printable
