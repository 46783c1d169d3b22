-- All digits but the last three, and these.
use Rattle.std.proofs.Common.{◌≤◌, ◌/◌, ◌++◌, List, ℕ, ap, sym, ◌∙◌, append_assoc, length, length-append, arith}
use Rattle.std.specs.Fmt.{decimal}
use Rattle.unit_fraction.specs.Text.{decimals}
use Rattle.sentence_fields.proofs.Bodies.{length_thousands, thousands}
use Rattle.sentence_fields.proofs.field.append_whole.Goals as goal

pub append_few-requires-else-number-lt1000-clause-room : goal.append_few-requires-else-number-lt1000-clause-room
append_few-requires-else-number-lt1000-clause-room c = let some : 1000 ≤ c.args.number = omega arith in omega (arith, length_thousands c.args.number some c.requires.below)

pub append_three-requires : goal.append_three-requires
append_three-requires c =
    let n = c.args.number in
    let old = c.args.out.now.items in
    let some : 1000 ≤ n = omega arith in
    omega (arith, ap length c.append_few-else-number-lt1000.ensures.text, length-append old (decimal (n / 1000)), length_thousands n some c.requires.below)

pub returns-else-number-lt1000 : goal.returns-else-number-lt1000
returns-else-number-lt1000 c =
    let n = c.args.number in
    let old = c.args.out.now.items in
    let some : 1000 ≤ n = omega arith in
    record {
      text = c.append_three.ensures.text ∙ ap (λ (x : List ℕ). x ++ decimals 3 n) c.append_few-else-number-lt1000.ensures.text
          ∙ append_assoc old (decimal (n / 1000)) (decimals 3 n) ∙ ap (λ (ds : List ℕ). old ++ ds) (sym (thousands n some c.requires.below));
    }
