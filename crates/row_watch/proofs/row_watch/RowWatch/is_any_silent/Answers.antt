use Rattle.std.proofs.Common.{ap, ◌∙◌}
use Rattle.row_watch.specs.WatchKept.{Watch, any_kept_silent}
use Rattle.row_watch.proofs.Steps.{tells_silence}
use Rattle.row_watch.proofs.row_watch.RowWatch.is_any_silent.Goals as goal

pub returns : goal.returns
returns c = record {
  tells =
      tells_silence c.args.self.now c.any_silent.result
      (c.any_silent.ensures ∙ ap any_kept_silent c.as_slice.ensures.value ∙ ap (λ (w : Watch). any_kept_silent w.rows) c.self.view_is);
}
