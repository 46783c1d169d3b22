use Rattle.std.proofs.Common.{rules}
use Rattle.sentence_profile.specs.Reading.{hdt}
use Rattle.sentence_rows.proofs.hdt.read.Goals as goal

pub returns : goal.returns
unfolding hdt
returns c = search rules
