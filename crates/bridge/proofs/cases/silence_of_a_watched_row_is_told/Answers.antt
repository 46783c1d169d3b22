use Rattle.bridge.proofs.WatchedCases.{silence_is_told}
use Rattle.bridge.proofs.cases.silence_of_a_watched_row_is_told.Goals as goal

pub returns : goal.returns
returns c = silence_is_told
