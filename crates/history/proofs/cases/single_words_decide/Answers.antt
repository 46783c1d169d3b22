use Rattle.history.proofs.DecidingCases.{command_for_another, long_command, command_behind_its_event, request_to_another, claim_of_all, new_holder, cut_opener, short_while_open, unsent_uncounted, given_up_behind, session_again_at_the_limit, fast_packets_end_first, left_once, group_again_at_the_limit}
use Rattle.history.proofs.cases.single_words_decide.Goals as goal

pub returns-clause-command_for_another : goal.returns-clause-command_for_another
returns-clause-command_for_another c = command_for_another

pub returns-clause-long_command : goal.returns-clause-long_command
returns-clause-long_command c = long_command

pub returns-clause-command_behind_its_event : goal.returns-clause-command_behind_its_event
returns-clause-command_behind_its_event c = command_behind_its_event

pub returns-clause-request_to_another : goal.returns-clause-request_to_another
returns-clause-request_to_another c = request_to_another

pub returns-clause-claim_of_all : goal.returns-clause-claim_of_all
returns-clause-claim_of_all c = claim_of_all

pub returns-clause-new_holder : goal.returns-clause-new_holder
returns-clause-new_holder c = new_holder

pub returns-clause-cut_opener : goal.returns-clause-cut_opener
returns-clause-cut_opener c = cut_opener

pub returns-clause-short_while_open : goal.returns-clause-short_while_open
returns-clause-short_while_open c = short_while_open

pub returns-clause-unsent_uncounted : goal.returns-clause-unsent_uncounted
returns-clause-unsent_uncounted c = unsent_uncounted

pub returns-clause-given_up_behind : goal.returns-clause-given_up_behind
returns-clause-given_up_behind c = given_up_behind

pub returns-clause-session_again_at_the_limit : goal.returns-clause-session_again_at_the_limit
returns-clause-session_again_at_the_limit c = session_again_at_the_limit

pub returns-clause-fast_packets_end_first : goal.returns-clause-fast_packets_end_first
returns-clause-fast_packets_end_first c = fast_packets_end_first

pub returns-clause-left_once : goal.returns-clause-left_once
returns-clause-left_once c = left_once

pub returns-clause-group_again_at_the_limit : goal.returns-clause-group_again_at_the_limit
returns-clause-group_again_at_the_limit c = group_again_at_the_limit
