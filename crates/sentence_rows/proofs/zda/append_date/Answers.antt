-- The year is that of the date.
use Rattle.sentence_rows.proofs.zda.append_date.Goals as goal

pub returns-clause-said : goal.returns-clause-said
returns-clause-said c = rw (← c.year_of.ensures) c.append.ensures.said

pub returns-clause-again : goal.returns-clause-again
returns-clause-again c = rw (← c.year_of.ensures) c.append.ensures.again
