-- What a command writes that answers each line of a capture by itself.
use Rattle.std.specs.Prelude.{◌≡◌, ◌+◌, ℕ, List, [], ◌∷◌, ◌++◌, Result}
use Rattle.capture_text.specs.declared.line_rule.LineRule.{LineRule}
use Rattle.gate_events.specs.Event.{Seen}
use Rattle.line_commands.specs.Says.{Says}
use Rattle.command_line.specs.declared.words.LineCommand.{LineCommand}
use Rattle.command_line.specs.declared.words.LineCommand.TheVariants.{Convert, Show}
use Rattle.line_commands.specs.declared.line_command.Lines.{Lines}
use Rattle.line_commands.specs.Convert.{IsSaidText}
use Rattle.line_commands.specs.Show.{said_text}

-- what a line gives by what it says, or by the rule that it breaks
abbrev pub IsTextOf : LineCommand → ℕ → Result Seen LineRule → List ℕ → Type 0
IsTextOf Convert number said text = IsSaidText number said text
IsTextOf Show number said text = text ≡ said_text number said

-- the same, and the command stays what it is
abbrev pub IsAnswer : Lines → ℕ → Result Seen LineRule → List ℕ → Lines → Type 0
IsAnswer lines number said text after = IsTextOf lines.command number said text × (after ≡ lines)

-- What the line of this number gives: nothing where it is empty, else by what it says.
unfoldable pub Gives : LineCommand → ℕ → List ℕ → List ℕ → Type 0
Gives command number [] text = text ≡ []
Gives command number (b ∷ bytes) text = (said : Result Seen LineRule) × Says (b ∷ bytes) said × IsTextOf command number said text

-- Each line, numbered from n, gives its text, and the bytes are these texts behind one another.
abbrev pub AreTexts : LineCommand → ℕ → List (List ℕ) → List ℕ → Type 0
AreTexts command n [] bytes = bytes ≡ []
AreTexts command n (line ∷ lines) bytes = (text rest : List ℕ) × Gives command n line text × AreTexts command (n + 1) lines rest × (bytes ≡ text ++ rest)

-- lines are counted from 1
abbrev pub AreTextsOf : LineCommand → List (List ℕ) → List ℕ → Type 0
AreTextsOf command = AreTexts command 1
