-- Computed: lines of datagrams that break a rule (IEC 61162-450; IEC 61162-1).
use Rattle.std.proofs.Common.{refl}
use Rattle.history.specs.LineCases.{BadLines, BadFields, OwnLineElsewhere, OneLineTooMany}
use Rattle.history.proofs.Computed.{cases}

pub bad_lines : BadLines
unfolding cases
bad_lines = refl

pub bad_fields : BadFields
unfolding cases
bad_fields = refl

pub own_line_elsewhere : OwnLineElsewhere
unfolding cases
own_line_elsewhere = refl

pub one_line_too_many : OneLineTooMany
unfolding cases
one_line_too_many = refl
