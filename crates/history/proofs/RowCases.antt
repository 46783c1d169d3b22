-- Computed: what is said of single messages.
use Rattle.std.proofs.Common.{refl}
use Rattle.history.specs.RowCases.{TimeAfterClaim, TwoSentences}
use Rattle.history.proofs.Computed.{cases}

pub time_after_claim : TimeAfterClaim
unfolding cases
time_after_claim = refl

pub two_sentences : TwoSentences
unfolding cases
two_sentences = refl
