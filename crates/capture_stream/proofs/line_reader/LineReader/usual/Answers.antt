use Rattle.std.proofs.Common.{◌≡◌, length, take, arith}
use Rattle.std.proofs.lemmas.List.{length-take}
use Rattle.capture_stream.proofs.line_reader.LineReader.usual.Goals as goal

pub slice_bounds-usual_frame-end : goal.slice_bounds-usual_frame-end
slice_bounds-usual_frame-end c =
    let found = c.has_usual_end.ensures c.if-not-has_usual_end.false in
    let whole : 50 ≡ length (take 50 c.unread-unread.result.now) = omega (arith, length-take 50 c.unread-unread.result.now, found.0) in
    whole
