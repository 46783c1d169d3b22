use Rattle.std.proofs.Common.{◌-◌, ◌+◌, ◌≤◌, length, drop, ap, ◌∙◌, arith, rules}
use Rattle.std.proofs.lemmas.List.{length-take}
use Rattle.capture_stream.specs.LineReader.{Held}
use Rattle.capture_stream.proofs.LineReaderLemmas.{part_behind}
use Rattle.capture_stream.proofs.line_reader.LineReader.take_line.Goals as goal

pub returns-clause-rest : goal.returns-clause-rest
returns-clause-rest c =
    let r = c.self.inside in
    let within : r.start + c.args.count ≤ r.end = omega (arith, ap (λ (h : Held). length h.unread) c.self.view_is, length-take (r.end - r.start) (drop r.start r.buffer)) in
    part_behind r.buffer r.start r.end c.args.count within ∙ ap (λ (h : Held). drop c.args.count h.unread) c.self.view_is

pub returns-clause-answer : goal.returns-clause-answer
returns-clause-answer c = search rules
