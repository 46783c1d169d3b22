use Rattle.sentence_profile.proofs.CivilDates.{dates_are_the_calendars}
use Rattle.sentence_profile.proofs.laws.dates_are_the_calendars.Goals as goal

pub returns : goal.returns
returns c = dates_are_the_calendars
