use Rattle.history.proofs.SessionCases.{out_of_order, short_and_out_of_order, given_up, begun_too_early, begun_again}
use Rattle.history.proofs.cases.sessions_break_off.Goals as goal

pub returns-clause-out_of_order : goal.returns-clause-out_of_order
returns-clause-out_of_order c = out_of_order

pub returns-clause-short_and_out_of_order : goal.returns-clause-short_and_out_of_order
returns-clause-short_and_out_of_order c = short_and_out_of_order

pub returns-clause-given_up : goal.returns-clause-given_up
returns-clause-given_up c = given_up

pub returns-clause-begun_too_early : goal.returns-clause-begun_too_early
returns-clause-begun_too_early c = begun_too_early

pub returns-clause-begun_again : goal.returns-clause-begun_again
returns-clause-begun_again c = begun_again
