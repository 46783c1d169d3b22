-- What a line of a capture says by its grammar, or which rule it breaks.
use Rattle.std.specs.Prelude.{ℕ, ◌<◌, List, length, Result, Ok, Err}
use Rattle.capture_text.specs.declared.line_rule.LineRule.{LineRule}
use Rattle.capture_text.specs.declared.line_rule.LineRule.TheVariants.{Form, NotExtended, Long}
use Rattle.capture_text.specs.Capture.{longest_line, IsLine, IsNotExtended, IsNoLine}
use Rattle.gate_events.specs.Event.{Seen}

abbrev pub Says : List ℕ → Result Seen LineRule → Type 0
Says line (Ok seen) = IsLine seen line
Says line (Err Form) = IsNoLine line
Says line (Err NotExtended) = IsNotExtended line
Says line (Err Long) = longest_line < length line
