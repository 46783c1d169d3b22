-- Computed: the text of captures.
use Rattle.std.proofs.Common.{refl}
use Rattle.replaying.specs.ReplayCases.{OneLine, Backwards, CutOffInData, CutOffInIdentifier, NotExtended}
use Rattle.history.proofs.Computed.{cases}
use Rattle.capture_text.proofs.Computed.{lines}

pub one_line : OneLine
unfolding cases lines
one_line = refl

pub backwards : Backwards
unfolding cases lines
backwards = refl

pub cut_off_in_data : CutOffInData
unfolding cases lines
cut_off_in_data = refl

pub cut_off_in_identifier : CutOffInIdentifier
unfolding cases lines
cut_off_in_identifier = refl

pub not_extended : NotExtended
unfolding cases lines
not_extended = refl
