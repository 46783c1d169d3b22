use Rattle.source_choice.proofs.ChoiceLemmas.{all_opened}
use Rattle.source_choice.proofs.choice.Choice.new.Goals as goal

pub invariant_of-result : goal.invariant_of-result
invariant_of-result c = rw c.in_ok-subjects.ensures (all_opened c.args.sources c.args.timeouts.now)
