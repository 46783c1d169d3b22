-- Computed: a device's messages, with and without another device between them.
use Rattle.std.proofs.Common.{refl}
use Rattle.std.proofs.lemmas.Bool.{false≢true}
use Rattle.history.specs.IsolationCases.{SameAlone, OneDone, Unheard, NotRefused}
use Rattle.history.proofs.Computed.{cases}

pub same_alone : SameAlone
unfolding cases
same_alone = refl

pub one_done : OneDone
unfolding cases
one_done = refl

pub unheard : Unheard
unfolding cases
unheard = refl

pub not_refused : NotRefused
unfolding cases
not_refused = ((λ source opening. absurd (false≢true opening)), ((λ source opening. absurd (false≢true source)), tt))
