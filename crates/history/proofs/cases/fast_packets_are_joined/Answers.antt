use Rattle.history.proofs.FastCases.{in_turn, just_in_time, too_late, no_room, wrong_lengths, sent_twice, out_of_order, begun_again, longest}
use Rattle.history.proofs.cases.fast_packets_are_joined.Goals as goal

pub returns-clause-in_turn : goal.returns-clause-in_turn
returns-clause-in_turn c = in_turn

pub returns-clause-just_in_time : goal.returns-clause-just_in_time
returns-clause-just_in_time c = just_in_time

pub returns-clause-too_late : goal.returns-clause-too_late
returns-clause-too_late c = too_late

pub returns-clause-no_room : goal.returns-clause-no_room
returns-clause-no_room c = no_room

pub returns-clause-wrong_lengths : goal.returns-clause-wrong_lengths
returns-clause-wrong_lengths c = wrong_lengths

pub returns-clause-sent_twice : goal.returns-clause-sent_twice
returns-clause-sent_twice c = sent_twice

pub returns-clause-out_of_order : goal.returns-clause-out_of_order
returns-clause-out_of_order c = out_of_order

pub returns-clause-begun_again : goal.returns-clause-begun_again
returns-clause-begun_again c = begun_again

pub returns-clause-longest : goal.returns-clause-longest
returns-clause-longest c = longest
