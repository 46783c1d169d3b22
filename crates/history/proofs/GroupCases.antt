-- Computed: lines of groups (IEC 61162-450).
use Rattle.std.proofs.Common.{refl}
use Rattle.history.specs.GroupCases.{NineLines, AloneInItsGroup, AnotherTotal, SourcesApart, FirstAgain}
use Rattle.history.proofs.Computed.{cases}

pub nine_lines : NineLines
unfolding cases
nine_lines = refl

pub alone_in_its_group : AloneInItsGroup
unfolding cases
alone_in_its_group = refl

pub another_total : AnotherTotal
unfolding cases
another_total = refl

pub sources_apart : SourcesApart
unfolding cases
sources_apart = refl

pub first_again : FirstAgain
unfolding cases
first_again = refl
