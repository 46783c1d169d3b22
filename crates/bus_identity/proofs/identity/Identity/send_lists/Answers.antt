use Rattle.std.proofs.Common.{rules}
use Rattle.bus_identity.proofs.FrameLemmas.{can_send_lists}
use Rattle.bus_identity.proofs.identity.Identity.send_lists.Goals as goal

pub answer_identifier-id-requires : goal.answer_identifier-id-requires
answer_identifier-id-requires c = can_send_lists _ _

pub returns-clause-frames : goal.returns-clause-frames
returns-clause-frames c = search rules
