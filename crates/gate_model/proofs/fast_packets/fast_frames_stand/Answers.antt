use Rattle.gate_model.proofs.FastFrames.{frames_stand_fast}
use Rattle.gate_model.proofs.fast_packets.fast_frames_stand.Goals as goal

pub returns : goal.returns
returns c = frames_stand_fast
