use Rattle.std.proofs.Common.{◌+◌, ◌*◌, arith}
use Rattle.std.proofs.lemmas.Bool.{le-leb, leb-true}
use Rattle.std.proofs.lemmas.Bool.Decides.{same_from_decides}
use Rattle.source_choice.proofs.note.Note.is_fresh.Goals as goal

pub returns-then-self : goal.returns-then-self
returns-then-self c =
    let last = c.args.self.now.moment + 1000 * c.args.timeout in
    rw c.if-self.true (same_from_decides _ _ (leb-true _ _, le-leb _ _) (λ e. omega (arith, leb-true c.args.moment last e), λ l. le-leb _ _ (omega arith)))
