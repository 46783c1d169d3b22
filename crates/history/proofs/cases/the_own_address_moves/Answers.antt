use Rattle.history.proofs.OwnCases.{commanded_away, there_and_back, by_way_of_none, asked_after_a_move, asked_without_address, ready_after_a_command, defended_ready, own_name_elsewhere, malformed}
use Rattle.history.proofs.cases.the_own_address_moves.Goals as goal

pub returns-clause-commanded_away : goal.returns-clause-commanded_away
returns-clause-commanded_away c = commanded_away

pub returns-clause-there_and_back : goal.returns-clause-there_and_back
returns-clause-there_and_back c = there_and_back

pub returns-clause-by_way_of_none : goal.returns-clause-by_way_of_none
returns-clause-by_way_of_none c = by_way_of_none

pub returns-clause-asked_after_a_move : goal.returns-clause-asked_after_a_move
returns-clause-asked_after_a_move c = asked_after_a_move

pub returns-clause-asked_without_address : goal.returns-clause-asked_without_address
returns-clause-asked_without_address c = asked_without_address

pub returns-clause-ready_after_a_command : goal.returns-clause-ready_after_a_command
returns-clause-ready_after_a_command c = ready_after_a_command

pub returns-clause-defended_ready : goal.returns-clause-defended_ready
returns-clause-defended_ready c = defended_ready

pub returns-clause-own_name_elsewhere : goal.returns-clause-own_name_elsewhere
returns-clause-own_name_elsewhere c = own_name_elsewhere

pub returns-clause-malformed : goal.returns-clause-malformed
returns-clause-malformed c = malformed
