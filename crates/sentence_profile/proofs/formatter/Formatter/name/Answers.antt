use Rattle.std.proofs.Common.{sym, ap}
use Rattle.sentence_profile.specs.Reading.{name_of}
use Rattle.sentence_profile.proofs.formatter.Formatter.name.Goals as goal

pub returns-in-Hdt : goal.returns-in-Hdt
returns-in-Hdt c = sym (ap name_of c.in-Hdt.is)
