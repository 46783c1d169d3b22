use Rattle.std.proofs.Common.{refl}
use Rattle.row_traffic.proofs.network.sentences.take_joined.Goals as goal

pub loop-text-init : goal.loop-text-init
loop-text-init c = record { after = refl; whole = refl; source = c.requires.source }

pub take_text-requires : goal.take_text-requires
take_text-requires c = record { source = c.loop-text.invariant.source }
