use Rattle.history.proofs.TransportCases.{granted, wrong_size, too_early, no_room, broadcast, cut_off, granted_once}
use Rattle.history.proofs.cases.sessions_are_answered.Goals as goal

pub returns-clause-granted : goal.returns-clause-granted
returns-clause-granted c = granted

pub returns-clause-wrong_size : goal.returns-clause-wrong_size
returns-clause-wrong_size c = wrong_size

pub returns-clause-too_early : goal.returns-clause-too_early
returns-clause-too_early c = too_early

pub returns-clause-no_room : goal.returns-clause-no_room
returns-clause-no_room c = no_room

pub returns-clause-broadcast : goal.returns-clause-broadcast
returns-clause-broadcast c = broadcast

pub returns-clause-cut_off : goal.returns-clause-cut_off
returns-clause-cut_off c = cut_off

pub returns-clause-granted_once : goal.returns-clause-granted_once
returns-clause-granted_once c = granted_once
