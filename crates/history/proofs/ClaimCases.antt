-- Computed: what is emitted while addresses change hands.
use Rattle.std.proofs.Common.{refl}
use Rattle.history.specs.ClaimCases.{HeadingAfterClaim, TakenOver, ClaimedAgain, Defended, Obeyed, NotObeyed, Backwards}
use Rattle.history.proofs.Computed.{cases}

pub heading_after_claim : HeadingAfterClaim
unfolding cases
heading_after_claim = refl

pub taken_over : TakenOver
unfolding cases
taken_over = refl

pub claimed_again : ClaimedAgain
unfolding cases
claimed_again = refl

pub defended : Defended
unfolding cases
defended = refl

pub obeyed : Obeyed
unfolding cases
obeyed = refl

pub not_obeyed : NotObeyed
unfolding cases
not_obeyed = refl

pub backwards : Backwards
unfolding cases
backwards = refl
