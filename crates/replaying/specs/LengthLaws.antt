-- What is given for lines of captures that are too long: of any such one, for none of them computes as a case.
use Rattle.std.specs.Prelude.{◌≡◌, ℕ, ◌<◌, List, [], ◌∷◌, length, Option}
use Rattle.gate_events.specs.declared.emit.Detail.TheVariants as detail
use Rattle.capture_text.specs.Capture.{longest_line}
use Rattle.report_rules.specs.Rules.{line_long}
use Rattle.history.specs.Emits.{at, broken}
use Rattle.bridge.specs.BridgeSettings.{BridgeSettings}
use Rattle.bridge.specs.Running.{Running, moment_in}
use Rattle.replaying.specs.Replayed.{with_line}

abbrev pub LongLines : Type 0
LongLines =
    (p : BridgeSettings) (number : ℕ) (g : Option Running) (line : List ℕ) → longest_line < length line
    → with_line p number g line ≡ record { emits = at (moment_in g) (broken line_long (detail.Line number) ∷ []); after = g }
