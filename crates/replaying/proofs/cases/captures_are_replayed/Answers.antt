use Rattle.replaying.proofs.ReplayCases.{one_line, backwards, cut_off_in_data, cut_off_in_identifier, not_extended}
use Rattle.replaying.proofs.cases.captures_are_replayed.Goals as goal

pub returns-clause-one_line : goal.returns-clause-one_line
returns-clause-one_line c = one_line

pub returns-clause-backwards : goal.returns-clause-backwards
returns-clause-backwards c = backwards

pub returns-clause-cut_off_in_data : goal.returns-clause-cut_off_in_data
returns-clause-cut_off_in_data c = cut_off_in_data

pub returns-clause-cut_off_in_identifier : goal.returns-clause-cut_off_in_identifier
returns-clause-cut_off_in_identifier c = cut_off_in_identifier

pub returns-clause-not_extended : goal.returns-clause-not_extended
returns-clause-not_extended c = not_extended
