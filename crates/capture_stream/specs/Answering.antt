-- What a command answers each line of a capture with.
use Rattle.std.specs.Prelude.{◌≡◌, ℕ, List, [], ◌∷◌, ◌++◌, Option, Result, Ok, Err}
use Rattle.capture_text.specs.declared.line_rule.LineRule.{LineRule}
use Rattle.capture_text.specs.declared.line_rule.LineRule.TheVariants as rules
use Rattle.gate_events.specs.Event.{Seen}
use Rattle.capture_text.specs.Reading.{read}
use Rattle.capture_stream.specs.declared.line_reader.Next.{Next}
use Rattle.capture_stream.specs.declared.line_reader.Next.TheVariants.{Line, Long, Unfinished, Usual}
use Rattle.capture_stream.specs.Writer.{Sends}

-- What the line of this number gives: nothing where it is empty, else what is given by what it says, or by the rule that it breaks.
unfoldable pub LineGives : {A : Type 0} → (A → ℕ → Result Seen LineRule → List ℕ → A → Type 0) → A → ℕ → List ℕ → List ℕ → A → Type 0
LineGives Gives before number [] text after = (text ≡ []) × (after ≡ before)
LineGives Gives before number (b ∷ bytes) text after = Gives before number (read (b ∷ bytes)) text after

-- what the next line of a reader gives; one that is too long isn't held
abbrev pub NextGives : {A : Type 0} → (A → ℕ → Result Seen LineRule → List ℕ → A → Type 0) → A → Next → ℕ → List ℕ → List ℕ → A → Type 0
NextGives Gives before (Usual moment f) number line text after = LineGives Gives before number line text after
NextGives Gives before Line number line text after = LineGives Gives before number line text after
NextGives Gives before Long number line text after = Gives before number (Err rules.Long) text after
NextGives Gives before Unfinished number line text after = (text ≡ []) × (after ≡ before)

-- A text of which this is said waits behind what waited, and what is kept is as it says; or some of both was written.
abbrev pub Sent : {A E : Type 0} → (List ℕ → A → Type 0) → Option (List ℕ) → Option (List ℕ) → List ℕ → List ℕ → A → Result (Unit {0}) E → Type 0
Sent Gives told told' waiting waiting' after (Ok done) = (text : List ℕ) × Gives text after × Sends told told' (waiting ++ text) waiting'
Sent {A = A} Gives told told' waiting waiting' after (Err e) =
    (text : List ℕ) × (due : A) × Gives text due × (some : List ℕ) × Sends told told' (waiting ++ text) some
