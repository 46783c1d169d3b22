use Rattle.quantities.proofs.Found.{parts_readable}
use Rattle.quantities.proofs.reading.value_of.Goals as goal

pub value-requires-2 : goal.value-requires-2
value-requires-2 c = (parts_readable c.args.entry.now c.requires).1.0

pub value-requires-3 : goal.value-requires-3
value-requires-3 c = (parts_readable c.args.entry.now c.requires).1.1.0

pub value-requires-4 : goal.value-requires-4
value-requires-4 c = (parts_readable c.args.entry.now c.requires).1.1.1.0

pub value-requires-5 : goal.value-requires-5
value-requires-5 c = (parts_readable c.args.entry.now c.requires).1.1.1.1.0

pub value-requires-6 : goal.value-requires-6
value-requires-6 c = (parts_readable c.args.entry.now c.requires).1.1.1.1.1.0
