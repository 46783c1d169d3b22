-- What a line of a capture unfolds where a case computes it.
use Rattle.std.specs.Prelude.{⊤}
use Rattle.capture_text.specs.Reading.{seconds_at, micros_at, time_at, bytes_before_end, bytes_at, number_of, frame_at, seen_behind, read}

unfoldable pub lines : ⊤
unfolding seconds_at micros_at time_at bytes_before_end bytes_at number_of frame_at seen_behind read
lines = tt
