use Rattle.history.proofs.SlotLists.{slots_list_fast, slots_list_iso, slots_list_groups}
use Rattle.history.proofs.laws.slots_list_open_keys.Goals as goal

pub returns-clause-fast : goal.returns-clause-fast
returns-clause-fast c = slots_list_fast

pub returns-clause-iso : goal.returns-clause-iso
returns-clause-iso c = slots_list_iso

pub returns-clause-groups : goal.returns-clause-groups
returns-clause-groups c = slots_list_groups
