use Rattle.std.proofs.Common.{rules, arith}
use Rattle.datagram450.proofs.line_iter.start.Goals as goal

pub returns-then-bytes : goal.returns-then-bytes
returns-then-bytes c = search rules

pub split_at-requires : goal.split_at-requires
split_at-requires c = omega arith

pub returns : goal.returns
returns c = search rules
