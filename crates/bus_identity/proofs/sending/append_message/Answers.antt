use Rattle.std.proofs.Common.{arith}
use Rattle.bus_identity.proofs.FrameLemmas.{length_frames_of, lengths_by}
use Rattle.bus_identity.proofs.sending.append_message.Goals as goal

pub returns-clause-length : goal.returns-clause-length
returns-clause-length c =
    let out = lengths_by _ _ _ _ c.append_pieces.ensures.frames in
    let need = length_frames_of c.args.sequence c.args.payload.now in
    grind (arith, out, need)
