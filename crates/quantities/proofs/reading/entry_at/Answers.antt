use Rattle.quantities.proofs.Found.{readable_at}
use Rattle.quantities.proofs.reading.entry_at.Goals as goal

pub returns-then-selects-clause-readable : goal.returns-then-selects-clause-readable
returns-then-selects-clause-readable c = readable_at c.args.group.now c.loop-entry.entry-index _ c.loop-entry-test.true c.requires
