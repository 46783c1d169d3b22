use Rattle.std.proofs.Common.{rules, ◌≤◌, length, ap, arith}
use Rattle.counted_lines.proofs.Lines.{line_room}
use Rattle.counted_lines.proofs.writing.append_line.Goals as goal

pub returns-clause-written : goal.returns-clause-written
returns-clause-written c = search rules

pub returns-clause-short : goal.returns-clause-short
returns-clause-short c =
    let few : length c.write_sentence.new.text.bytes.items ≤ 82 = search rules in
    let same = ap length c.write_sentence.ensures.text in
    line_room c.args.source c.args.before _ c.args.packet.now.items c.push_line-fits.new.out.items c.as_bytes-form.ensures.form (omega (arith, few, same))
    (returns-clause-written c)
