use Rattle.std.proofs.Common.{◌++◌, ap, not, ◌∙◌}
use Rattle.counted_lines.specs.CountedLines.{lines_from, only_where}
use Rattle.navigation.specs.Sentences.{apb_text, rmb_text, xte_text}
use Rattle.navigation.proofs.Lines.{written_as}
use Rattle.navigation.proofs.writing.write_leg.Goals as goal

pub returns-clause-written : goal.returns-clause-written
returns-clause-written c =
    let source = c.args.source in
    let before = c.args.before in
    let talker = c.args.talker in
    let leg = c.args.leg.now in
    let error = c.args.error in
    let first = only_where (not leg.magnetic) (rmb_text talker leg error) in
    written_as source before first (apb_text talker leg error) (xte_text talker error)
    c.append_where-first.new.packet.items c.append_line.new.packet.items c.append_line-2.new.packet.items
    (rw c.rmb-rmb.ensures.fields at c.append_where-first.ensures.written ∙ ap (λ bytes. bytes ++ lines_from source before first) c.begin.ensures)
    (rw (c.apb-apb.ensures.fields, c.append_where-first.ensures.count, c.rmb-rmb.ensures.fields) at c.append_line.ensures.written)
    (rw (c.xte-xte.ensures.fields, c.append_where-first.ensures.count, c.rmb-rmb.ensures.fields) at c.append_line-2.ensures.written)
