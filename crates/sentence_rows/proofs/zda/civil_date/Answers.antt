-- The calendar's first date is 4,371,587 days before 1970-01-01.
use Rattle.std.proofs.Common.{arith}
use Rattle.std.proofs.lemmas.Int.{ints}
use Rattle.sentence_rows.proofs.zda.civil_date.Goals as goal

pub returns : goal.returns
returns c = let e = c.from_days_since_min.ensures in omega (arith, ints)
