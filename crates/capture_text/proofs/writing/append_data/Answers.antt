use Rattle.std.proofs.Common.{List, ℕ, ◌++◌, ap, ◌∙◌}
use Rattle.capture_text.proofs.HexadecimalLemmas.{held_encoded}
use Rattle.capture_text.proofs.writing.append_data.Goals as goal

pub returns-clause-text : goal.returns-clause-text
returns-clause-text c =
    c.append.ensures.text ∙ ap (λ (x : List ℕ). c.args.out.now.items ++ x) (held_encoded c.args.held.now c.args.bytes.now c.put_digits.new.room c.requires.front c.put_digits.ensures)
