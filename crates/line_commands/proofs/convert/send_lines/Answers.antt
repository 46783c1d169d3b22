use Rattle.std.proofs.Common.{◌≡◌, ◌≤◌, List, ℕ, [], ◌++◌, length, ap, subst, ◌∙◌, arith}
use Rattle.capture_stream.specs.Writer.{Writes}
use Rattle.line_commands.proofs.ConvertLemmas.{behind, one, two}
use Rattle.line_commands.proofs.convert.send_lines.Goals as goal

pub returns-in-len1-clause-sent : goal.returns-in-len1-clause-sent
returns-in-len1-clause-sent g c =
    let all : c.as_slice.result.now ≡ c.args.lines.now.items = c.as_slice.ensures.value in
    let text : c.as_slice-in-len1.result.now ≡ behind c.args.lines.now.items =
    c.as_slice-in-len1.ensures.value ∙ (one c.as_slice.result.now c.first-item.result c.in-len1.len_at_least c.in-len1.len_below c.first-item.is ∙ ap behind all) in
    subst (λ (x : List ℕ). Writes (g.K.Sink.taken c.args.out.now) (g.K.Sink.taken c.send.new.out) (c.args.writer.now ++ x) c.send.new.self c.send.result) text c.send.ensures.sent

pub returns-in-len2-up-clause-sent : goal.returns-in-len2-up-clause-sent
returns-in-len2-up-clause-sent g c =
    let all : c.as_slice.result.now ≡ c.args.lines.now.items = c.as_slice.ensures.value in
    let first : c.as_slice-in-len2-up.result.now ≡ c.first-item-2.result.bytes.items = c.as_slice-in-len2-up.ensures.value in
    let second : c.as_slice-in-len2-up-2.result.now ≡ c.second-item.result.bytes.items = c.as_slice-in-len2-up-2.ensures.value in
    let few : length c.as_slice.result.now ≤ 2 = omega (arith, c.as_slice.ensures.fits) in
    let text : c.as_slice-in-len2-up.result.now ++ (c.as_slice-in-len2-up-2.result.now ++ []) ≡ behind c.args.lines.now.items =
    ap (λ (x : List ℕ). x ++ (c.as_slice-in-len2-up-2.result.now ++ [])) first
    ∙ (ap (λ (x : List ℕ). c.first-item-2.result.bytes.items ++ (x ++ [])) second
    ∙ (two c.as_slice.result.now c.first-item-2.result c.second-item.result c.in-len2-up.len_at_least few c.first-item-2.is c.second-item.is ∙ ap behind all)) in
    subst (λ (x : List ℕ). Writes (g.K.Sink.taken c.args.out.now) (g.K.Sink.taken c.send_all.new.out) (c.args.writer.now ++ x) c.send_all.new.self c.send_all.result) text c.send_all.ensures.sent
