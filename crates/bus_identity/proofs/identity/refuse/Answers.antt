use Rattle.bus_identity.proofs.FrameLemmas.{can_refuse}
use Rattle.bus_identity.proofs.identity.refuse.Goals as goal

pub answer_identifier-id-requires : goal.answer_identifier-id-requires
answer_identifier-id-requires c = can_refuse _ _
