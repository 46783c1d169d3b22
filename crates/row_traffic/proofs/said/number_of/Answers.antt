use Rattle.std.proofs.Common.{rules, ◌∙◌, ap}
use Rattle.std.proofs.lemmas.Nat.{le_bytes_4}
use Rattle.std.specs.Int.{from_le_bytes, w32}
use Rattle.row_traffic.proofs.said.number_of.Goals as goal

pub returns-clause-text : goal.returns-clause-text
returns-clause-text c =
    le_bytes_4 c.args.group _ (search rules) (search rules) (c.from_le_bytes.ensures ∙ ap (from_le_bytes w32) c.as_bytes.ensures.text)
