use Rattle.std.proofs.Common.{ap, ◌∙◌}
use Rattle.bus_identity.specs.Payloads.{list_of}
use Rattle.bus_identity.proofs.PgnListLemmas.{received_can_be_listed, received_is}
use Rattle.bus_identity.proofs.lists.received_list.Goals as goal

pub list_of-requires : goal.list_of-requires
list_of-requires c =
    let is = received_is _ _ _ c.all_rows.ensures c.received.ensures c.deref.ensures.0 in
    rw is record { room = received_can_be_listed.room; groups = received_can_be_listed.small }

pub returns : goal.returns
returns c = c.list_of.ensures ∙ ap (list_of 1) (received_is _ _ _ c.all_rows.ensures c.received.ensures c.deref.ensures.0)
