use Rattle.capture_stream.specs.Answering.{LineGives}
use Rattle.capture_stream.specs.Lines.{IsTextFrom}
use Rattle.capture_stream.proofs.EndLemmas.{ends_as}
use Rattle.replaying.specs.Replayed.{IsReplayFrom}
use Rattle.replaying.specs.Replaying.{IsAnswer}
use Rattle.replaying.proofs.Replays.{replays}
use Rattle.replaying.proofs.replay.replay_capture.Goals as goal

pub returns-clause-ends : goal.returns-clause-ends
returns-clause-ends g c = λ p running stands.
    ends_as (IsTextFrom (LineGives IsAnswer) _) (IsReplayFrom p running) (g.S.Source.left c.args.input.now) (g.S.Source.left c.answer_capture.new.input)
    (g.K.Sink.taken c.args.out.now) (g.K.Sink.taken c.answer_capture.new.out) c.answer_capture.result (replays p running _ stands) c.answer_capture.ensures.ends
