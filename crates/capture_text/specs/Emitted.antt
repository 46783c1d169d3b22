-- The line of what a gateway emitted, at its moment.
use Rattle.std.specs.Prelude.{ℕ, List, [], ◌∷◌, ◌++◌}
use Rattle.gate_events.specs.Emit.{Emit, Emitted, can, net, report}
use Rattle.capture_text.specs.Writing.{time_text, frame_text, datagram_text, report_text}

abbrev pub emit_text : Emit → List ℕ
emit_text (can f) = frame_text f
emit_text (net group bytes) = datagram_text group bytes
emit_text (report r) = report_text r

abbrev pub line_of : Emitted → List ℕ
line_of e = time_text e.moment ++ emit_text e.emit ++ 10 ∷ []
