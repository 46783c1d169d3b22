use Rattle.fast_packet.proofs.Assemblies.{kept_open}
use Rattle.fast_packet.proofs.laws.assembly_is_open_prefix.Goals as goal

pub returns : goal.returns
returns c h valid = kept_open h valid
