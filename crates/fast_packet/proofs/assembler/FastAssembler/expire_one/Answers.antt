use Rattle.slot_views.specs.Slots.{has_expired}
use Rattle.fast_packet.proofs.Sources.{without_assemblies}
use Rattle.fast_packet.proofs.assembler.FastAssembler.expire_one.Goals as goal

pub invariant_of-self : goal.invariant_of-self
invariant_of-self c = rw c.expire_one.ensures.after (without_assemblies c.self.inside.slots (has_expired c.args.moment) c.self.invariant)
