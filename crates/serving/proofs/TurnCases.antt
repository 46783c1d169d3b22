-- Computed: turns between two links.
use Rattle.std.proofs.Common.{refl}
use Rattle.history.proofs.Computed.{cases}
use Rattle.capture_text.proofs.Computed.{lines}
use Rattle.serving.specs.TurnCases.{ARunIsRecorded, ReceivesFail, SendsFail, FramesAreLines, ReportsAreLines}

pub receives_fail : ReceivesFail
unfolding cases lines
receives_fail = refl

pub a_run_is_recorded : ARunIsRecorded
unfolding cases lines
a_run_is_recorded = refl

pub sends_fail : SendsFail
unfolding cases lines
sends_fail = refl

pub frames_are_lines : FramesAreLines
unfolding cases lines
frames_are_lines = refl

pub reports_are_lines : ReportsAreLines
unfolding cases lines
reports_are_lines = refl
