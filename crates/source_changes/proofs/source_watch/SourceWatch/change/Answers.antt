use Rattle.gate_core.proofs.Picks.{last_is_picked}
use Rattle.parts.specs.Picked.{last_picked}
use Rattle.source_changes.proofs.WatchSteps.{watches}
use Rattle.source_changes.proofs.source_watch.SourceWatch.change.Goals as goal

pub returns : goal.returns
returns c =
    let g = c.args.gateway.now in
    let outbox = c.args.outbox.now in record {
      history = watches g outbox (last_picked g outbox) c.args.self.now c.take.new.self c.take.result (last_is_picked g outbox) c.take.ensures.kept c.take.ensures.told;
    }
