use Rattle.recordings.proofs.RecordedRuns.{recorded_runs_replay}
use Rattle.recordings.proofs.laws.recorded_runs_replay.Goals as goal

pub returns : goal.returns
returns c = recorded_runs_replay
