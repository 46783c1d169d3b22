use Rattle.std.proofs.Common.{ℕ, List, ◌++◌, subst, ◌∙◌}
use Rattle.capture_stream.specs.Writer.{Writes}
use Rattle.line_commands.proofs.ShowLemmas.{line_is, bad_is}
use Rattle.line_commands.proofs.show.send_item.Goals as goal

pub returns-in-Line-clause-sent : goal.returns-in-Line-clause-sent
returns-in-Line-clause-sent g c =
    let l = c.in-Line in
    let is = line_is c.args.number l.at l.tag l.text l.sentence c.args.item.now c.as_slice.result.now c.text_or_dash.result.now c.as_slice-in-Line.result.now c.without_end.result.now l.is
    (c.as_slice.ensures.value ∙ c.write_front.ensures) c.text_or_dash.ensures (c.as_slice-in-Line.ensures.value ∙ c.write_middle.ensures) c.without_end.ensures in
    subst (λ (x : List ℕ). Writes (g.K.Sink.taken c.args.out.now) (g.K.Sink.taken c.send_all.new.out) (c.args.writer.now ++ x) c.send_all.new.self c.send_all.result) is c.send_all.ensures.sent

pub returns-in-Bad-clause-sent : goal.returns-in-Bad-clause-sent
returns-in-Bad-clause-sent g c =
    let is = bad_is c.args.number c.in-Bad.rule c.in-Bad.at c.args.item.now c.as_slice-in-Bad.result.now c.in-Bad.is (c.as_slice-in-Bad.ensures.value ∙ c.write_place.ensures) in
    subst (λ (x : List ℕ). Writes (g.K.Sink.taken c.args.out.now) (g.K.Sink.taken c.send.new.out) (c.args.writer.now ++ x) c.send.new.self c.send.result) is c.send.ensures.sent
