-- What is counted of what a gateway emits: how many frames, datagrams and reports, and a number that all bytes of their lines are folded into.
use Rattle.std.specs.Prelude.{ℕ, ◌+◌, ◌*◌, ◌%◌, ◌^◌, Bool, true, false, List, length, filter}
use Rattle.std.specs.List.{flat_map, fold}
use Rattle.gate_events.specs.Emit.{Emit, Emitted, can, net, report}
use Rattle.capture_text.specs.Emitted.{line_of}
use Rattle.demo.specs.declared.tally.Tally.{Tally}

abbrev pub is_frame : Emit → Bool
is_frame (can f) = true
is_frame (net group bytes) = false
is_frame (report r) = false

abbrev pub is_datagram : Emit → Bool
is_datagram (can f) = false
is_datagram (net group bytes) = true
is_datagram (report r) = false

abbrev pub is_report : Emit → Bool
is_report (can f) = false
is_report (net group bytes) = false
is_report (report r) = true

abbrev pub how_many : (Emit → Bool) → List Emitted → ℕ
how_many is emits = length (filter (λ x. is x.emit) emits)

-- one byte more
unfoldable pub folded : ℕ → ℕ → ℕ
folded x byte = (x * 31 + byte) % 2 ^ 64

abbrev pub tally_of : List Emitted → Tally
tally_of emits = record {
  frames = how_many is_frame emits;
  datagrams = how_many is_datagram emits;
  reports = how_many is_report emits;
  fold = fold folded 0 (flat_map line_of emits);
}

-- ---- one emit more

abbrev pub counted : Tally → Emit → ℕ → Tally
counted t (can f) x = record { frames = t.frames + 1; datagrams = t.datagrams; reports = t.reports; fold = x }
counted t (net group bytes) x = record { frames = t.frames; datagrams = t.datagrams + 1; reports = t.reports; fold = x }
counted t (report r) x = record { frames = t.frames; datagrams = t.datagrams; reports = t.reports + 1; fold = x }

abbrev pub and_one : Tally → Emitted → Tally
and_one t x = counted t x.emit (fold folded t.fold (line_of x))

-- and more
abbrev pub and_all : Tally → List Emitted → Tally
and_all t emits = fold and_one t emits

-- how many there are in all
abbrev pub total : Tally → ℕ
total t = t.frames + t.datagrams + t.reports
