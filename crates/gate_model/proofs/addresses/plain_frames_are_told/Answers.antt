use Rattle.gate_model.proofs.AddressFrames.{frames_are_told}
use Rattle.gate_model.proofs.addresses.plain_frames_are_told.Goals as goal

pub returns : goal.returns
returns c = frames_are_told
