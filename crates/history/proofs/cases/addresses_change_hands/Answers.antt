use Rattle.history.proofs.ClaimCases.{heading_after_claim, taken_over, claimed_again, defended, obeyed, not_obeyed, backwards}
use Rattle.history.proofs.cases.addresses_change_hands.Goals as goal

pub returns-clause-heading_after_claim : goal.returns-clause-heading_after_claim
returns-clause-heading_after_claim c = heading_after_claim

pub returns-clause-taken_over : goal.returns-clause-taken_over
returns-clause-taken_over c = taken_over

pub returns-clause-claimed_again : goal.returns-clause-claimed_again
returns-clause-claimed_again c = claimed_again

pub returns-clause-defended : goal.returns-clause-defended
returns-clause-defended c = defended

pub returns-clause-obeyed : goal.returns-clause-obeyed
returns-clause-obeyed c = obeyed

pub returns-clause-not_obeyed : goal.returns-clause-not_obeyed
returns-clause-not_obeyed c = not_obeyed

pub returns-clause-backwards : goal.returns-clause-backwards
returns-clause-backwards c = backwards
