use Rattle.std.proofs.Common.{subst, sym}
use Rattle.std.specs.Prelude.{Option}
use Rattle.settings.specs.Setup.{gateway_of}
use Rattle.parts.specs.Compose.{maybe_stand}
use Rattle.parts.specs.PartSteps.{IsOpened}
use Rattle.row_watch.specs.WatchPart.{watch_asked}
use Rattle.heartbeats.specs.Beats.{beats_asked}
use Rattle.supervision.specs.Supervised.{supervision_asked, supervision_stands}
use Rattle.supervision.specs.declared.supervision.Supervision.{Supervision}
use Rattle.supervision.proofs.Steps.{both_opened}
use Rattle.supervision.proofs.supervision.SupervisionPartSupervisionPlace.opened.Goals as goal

pub returns : goal.returns
returns c =
    let x = c.args.setup.now in
    subst (λ (k : Option Supervision). IsOpened (maybe_stand supervision_stands) (supervision_asked x) (gateway_of x) k) (sym c.joined.ensures)
    (both_opened (watch_asked x) (beats_asked x) (gateway_of x) c.in_ok-watch.watch c.opened-beats.result c.in_ok-watch.ensures c.opened-beats.ensures)
