use Rattle.std.proofs.Common.{◌≡◌, ◌-◌, length, take, sym, ◌∙◌, arith}
use Rattle.std.proofs.lemmas.List.{take_all}
use Rattle.capture_text.proofs.LineEnds.{without_cr-cr, without_cr-other, without_cr-none}
use Rattle.capture_stream.proofs.line_reader.line_len.Goals as goal
use Rattle.capture_stream.proofs.line_reader.line_len.Goals.{else-len-gt0-via-then-len-gt0+else-bytes-len-eq13, else-len-gt0-via-else-len-gt0}

pub returns-then-bytes-len-eq13-clause-line : goal.returns-then-bytes-len-eq13-clause-line
returns-then-bytes-len-eq13-clause-line c = sym (without_cr-cr c.args.bytes.now (length c.args.bytes.now - 1) (omega arith) c.if-bytes-len-eq13.true)

pub returns-else-len-gt0-clause-line : goal.returns-else-len-gt0-clause-line
returns-else-len-gt0-clause-line c =
    let whole : take (length c.args.bytes.now) c.args.bytes.now ≡ c.args.bytes.now = take_all (length c.args.bytes.now) c.args.bytes.now (omega arith) in
    elim c.else-len-gt0.branch [
      | else-len-gt0-via-then-len-gt0+else-bytes-len-eq13 w ↦ whole ∙ sym (without_cr-other c.args.bytes.now (length c.args.bytes.now - 1) (omega arith) w.if-bytes-len-eq13.false)
      | else-len-gt0-via-else-len-gt0 w ↦ whole ∙ sym (without_cr-none c.args.bytes.now (omega arith))
    ]
