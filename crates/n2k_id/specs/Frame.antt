use Rattle.std.specs.Prelude.{◌≡◌, ℕ, ◌-◌, ◌^◌, ◌<◌, ◌≤◌, List, length, take, drop, replicate}
use Rattle.n2k_id.specs.declared.frame.Frame.{Frame}

-- a valid frame: 29 bits of identifier, at most 8 data bytes, and 0 in each place beyond them
pub record IsFrame (frame : Frame) : Type 0 where
  pub identifier : frame.id < 2 ^ 29
  pub room : length frame.bytes ≡ 8
  pub fits : frame.len ≤ 8
  pub beyond : drop frame.len frame.bytes ≡ replicate (8 - frame.len) 0

-- what the bus carries of a frame: its identifier and its data bytes
pub record BusFrame : Type 0 where
  pub id : ℕ
  pub held : List ℕ

-- the data bytes that a frame holds
abbrev pub held_bytes : Frame → List ℕ
held_bytes frame = take frame.len frame.bytes

abbrev pub bus_frame : Frame → BusFrame
bus_frame frame = record { id = frame.id; held = held_bytes frame }

-- a valid frame with this identifier and these data bytes
pub record Carries (seen : BusFrame) (frame : Frame) : Type 0 where
  pub valid : IsFrame frame
  pub carried : bus_frame frame ≡ seen
