use Rattle.std.proofs.Common.{ap, ◌∙◌}
use Rattle.bus_identity.specs.Payloads.{list_of}
use Rattle.bus_identity.proofs.PgnListLemmas.{sent_can_be_listed, sent_is}
use Rattle.bus_identity.proofs.lists.sent_list.Goals as goal

pub list_of-requires : goal.list_of-requires
list_of-requires c =
    let is = sent_is _ _ _ c.all_rows.ensures c.sent.ensures c.deref.ensures.0 in
    rw is record { room = sent_can_be_listed.room; groups = sent_can_be_listed.small }

pub returns : goal.returns
returns c = c.list_of.ensures ∙ ap (list_of 0) (sent_is _ _ _ c.all_rows.ensures c.sent.ensures c.deref.ensures.0)
