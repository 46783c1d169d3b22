use Rattle.capture_text.proofs.Times.{with_rest}
use Rattle.capture_text.proofs.time.time.Goals as goal

pub slice_bounds-result-start : goal.slice_bounds-result-start
slice_bounds-result-start c = (c.has_usual_time.ensures c.if-has_usual_time.true).0

pub returns-then-has_usual_time : goal.returns-then-has_usual_time
returns-then-has_usual_time c = record { reads = with_rest c.args.line.now 20 _ _ c.usual_moment.ensures }

pub returns : goal.returns
returns c = record { reads = c.any_time.ensures.reads }
