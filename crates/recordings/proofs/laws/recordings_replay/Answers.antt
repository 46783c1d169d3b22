use Rattle.recordings.proofs.Run.{recordings_replay}
use Rattle.recordings.proofs.laws.recordings_replay.Goals as goal

pub returns : goal.returns
returns c = recordings_replay
