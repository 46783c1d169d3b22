use Rattle.slot_views.specs.Slots.{has_expired}
use Rattle.iso_transport.proofs.Sources.{without_sessions}
use Rattle.iso_transport.proofs.assembler.IsoAssembler.expire_one.Goals as goal

pub invariant_of-self : goal.invariant_of-self
invariant_of-self c = rw c.expire_one.ensures.after (without_sessions c.self.inside.slots (has_expired c.args.moment) c.self.invariant)
