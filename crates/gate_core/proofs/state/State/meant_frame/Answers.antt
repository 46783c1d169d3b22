use Rattle.gate_core.proofs.state.State.meant_frame.Goals as goal

pub request-requires : goal.request-requires
request-requires c = c.requires.valid

pub session_frame-requires : goal.session_frame-requires
session_frame-requires c = record { valid = c.requires.valid; parts = c.requires.parts; stays = c.requires.stays }

pub single_frame-requires : goal.single_frame-requires
single_frame-requires c = record { valid = c.requires.valid; parts = c.requires.parts; stays = c.requires.stays }

pub fast_frame-requires : goal.fast_frame-requires
fast_frame-requires c = record { valid = c.requires.valid; parts = c.requires.parts; stays = c.requires.stays }
