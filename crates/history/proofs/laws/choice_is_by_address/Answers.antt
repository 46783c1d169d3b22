use Rattle.history.proofs.NoteChoice.{first_by_notes, first_net_by_notes}
use Rattle.history.proofs.ChoiceSteps.{first_by_addresses, messages_are_of_holders}
use Rattle.history.proofs.laws.choice_is_by_address.Goals as goal

pub returns-clause-first : goal.returns-clause-first
returns-clause-first c = first_by_addresses

pub returns-clause-notes : goal.returns-clause-notes
returns-clause-notes c = first_by_notes

pub returns-clause-net_notes : goal.returns-clause-net_notes
returns-clause-net_notes c = first_net_by_notes

pub returns-clause-names : goal.returns-clause-names
returns-clause-names c = messages_are_of_holders
