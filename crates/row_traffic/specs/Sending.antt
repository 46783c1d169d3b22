-- The frames of a message that the gateway sends: one, or those of a fast packet (canboat).
use Rattle.std.specs.Prelude.{ℕ, List, [], ◌∷◌, map, if◌then◌else◌}
use Rattle.n2k_id.specs.declared.identifier_parts.Parts.{Parts}
use Rattle.readings.specs.declared.reading.Reading.{Reading}
use Rattle.readings.specs.declared.rows.Row.{Row}
use Rattle.readings.specs.Rows.{row_of}
use Rattle.pgn_profile.specs.Profiled.{payload_of, pgn_of, priority_of}
use Rattle.fast_packet.specs.FastRuns.{frames_of}
use Rattle.gate_events.specs.Emit.{Emit}
use Rattle.history.specs.Emits.{sent}
use Rattle.history.specs.NetReadings.{is_fast_row}

-- a frame with these parts of its identifier
abbrev pub sent_with : Parts → List ℕ → Emit
sent_with parts held = sent parts.priority parts.pgn parts.destination parts.source held

-- a message of the row goes from the address to all
abbrev pub row_parts : Row → ℕ → Parts
row_parts row address = record { priority = priority_of row; pgn = pgn_of row; destination = 255; source = address }

-- the data bytes of its frames
abbrev pub reading_pieces : ℕ → Reading → List (List ℕ)
reading_pieces sequence r = if is_fast_row (row_of r) then frames_of sequence (payload_of r) else payload_of r ∷ []

abbrev pub reading_frames : ℕ → ℕ → Reading → List Emit
reading_frames address sequence r = map (sent_with (row_parts (row_of r) address)) (reading_pieces sequence r)
