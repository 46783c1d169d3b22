use Rattle.std.proofs.Common.{List, ℕ, ◌/◌, [], ◌∷◌, ◌++◌, ap, append_assoc, ◌∙◌}
use Rattle.std.specs.Fmt.{decimal}
use Rattle.unit_fraction.specs.Text.{decimals}
use Rattle.sentence_fields.proofs.field.append_hundredths.Goals as goal

pub returns : goal.returns
returns c =
    let n = c.args.hundredths in
    let old = c.args.out.now.items in
    let front = decimal (n / 100) in
    c.append_two.ensures.text
    ∙ ap (λ (x : List ℕ). x ++ decimals 2 n) (c.push.ensures.items ∙ ap (λ (x : List ℕ). x ++ 46 ∷ []) c.append_whole.ensures.text)
    ∙ append_assoc (old ++ front) (46 ∷ []) (decimals 2 n) ∙ append_assoc old front (46 ∷ decimals 2 n)
