use Rattle.history.proofs.NetCases.{second_of_three, no_header, moved, half_a_group, not_heard, early_after_move, no_room, rmc_without_dbt, dbt_without_rmc}
use Rattle.history.proofs.cases.datagrams_are_heard.Goals as goal

pub returns-clause-second_of_three : goal.returns-clause-second_of_three
returns-clause-second_of_three c = second_of_three

pub returns-clause-no_header : goal.returns-clause-no_header
returns-clause-no_header c = no_header

pub returns-clause-moved : goal.returns-clause-moved
returns-clause-moved c = moved

pub returns-clause-half_a_group : goal.returns-clause-half_a_group
returns-clause-half_a_group c = half_a_group

pub returns-clause-not_heard : goal.returns-clause-not_heard
returns-clause-not_heard c = not_heard

pub returns-clause-early_after_move : goal.returns-clause-early_after_move
returns-clause-early_after_move c = early_after_move

pub returns-clause-no_room : goal.returns-clause-no_room
returns-clause-no_room c = no_room

pub returns-clause-rmc_without_dbt : goal.returns-clause-rmc_without_dbt
returns-clause-rmc_without_dbt c = rmc_without_dbt

pub returns-clause-dbt_without_rmc : goal.returns-clause-dbt_without_rmc
returns-clause-dbt_without_rmc c = dbt_without_rmc
