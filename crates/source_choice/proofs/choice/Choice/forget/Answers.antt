use Rattle.source_choice.proofs.ChoiceLemmas.{all_forgotten}
use Rattle.source_choice.proofs.choice.Choice.forget.Goals as goal

pub invariant_of-self : goal.invariant_of-self
invariant_of-self c =
    rw c.forget_in.ensures (all_forgotten c.self.inside.sources c.args.source c.self.inside.subjects.items c.self.invariant)
