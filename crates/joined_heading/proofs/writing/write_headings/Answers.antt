use Rattle.std.proofs.Common.{◌++◌, ap, ◌∙◌}
use Rattle.counted_lines.specs.CountedLines.{line_of, only_where}
use Rattle.joined_heading.specs.Sentences.{hdg_text, hdm_text, hdt_text}
use Rattle.joined_heading.proofs.Lines.{written_as}
use Rattle.joined_heading.proofs.writing.write_headings.Goals as goal

pub returns-clause-written : goal.returns-clause-written
returns-clause-written c =
    let source = c.args.source in
    let before = c.args.before in
    let talker = c.args.config.now.variation.talker in
    let said = c.args.said.now in
    written_as source before (hdg_text talker said) (only_where c.args.config.now.hdm (hdm_text talker said)) (only_where c.args.computed (hdt_text talker said))
    c.append_line.new.packet.items c.append_where-magnetic.new.packet.items c.append_where.new.packet.items
    (c.append_line.ensures.written ∙ ap (λ bytes. bytes ++ line_of source before (hdg_text talker said)) c.begin.ensures)
    (rw (c.north-hdm.ensures.fields, c.magnetic.ensures.value) at c.append_where-magnetic.ensures.written)
    (rw (c.north-hdt.ensures.fields, c.true_north.ensures, c.append_where-magnetic.ensures.count, c.north-hdm.ensures.fields, c.magnetic.ensures.value) at c.append_where.ensures.written)
