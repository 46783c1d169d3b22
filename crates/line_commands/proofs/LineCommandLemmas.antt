-- A command that keeps nothing gives each line its text.
use Rattle.std.proofs.Common.{◌≡◌, ◌+◌, ℕ, List, [], ◌∷◌, Result, Ok, Err, refl, sym, subst}
use Rattle.std.specs.Prelude.{Option}
use Rattle.capture_text.specs.declared.line_rule.LineRule.{LineRule}
use Rattle.capture_text.specs.declared.line_rule.LineRule.TheVariants.{Form, NotExtended, Long}
use Rattle.gate_events.specs.Event.{Seen}
use Rattle.capture_text.specs.Reading.{read}
use Rattle.capture_text.proofs.Laws.{found, long_found, not_extended_found, is_form}
use Rattle.line_commands.specs.Says.{Says}
use Rattle.capture_stream.specs.Answering.{LineGives, Sent}
use Rattle.capture_stream.specs.Lines.{AreTexts as AreAnswers, IsTextFrom}
use Rattle.capture_stream.specs.Writer.{SendsText}
use Rattle.line_commands.specs.declared.line_command.Lines.{Lines}
use Rattle.line_commands.specs.LineCommand.{IsTextOf, IsAnswer, Gives, AreTexts, AreTextsOf}

pub is_sent : {E : Type 0} (lines : Lines) (number : ℕ) (said : Result Seen LineRule) (told told' : Option (List ℕ)) (waiting waiting' : List ℕ) (result : Result (Unit {0}) E)
    → SendsText (IsTextOf lines.command number said) told told' waiting waiting' result → Sent (IsAnswer lines number said) told told' waiting waiting' lines result
is_sent lines number said told told' waiting waiting' (Ok done) s = (s.0, (s.1, refl), s.2)
is_sent lines number said told told' waiting waiting' (Err e) s = (s.0, lines, (s.1, refl), s.2.0, s.2.1)

-- a line says by its grammar what it reads as
says_by : (line : List ℕ) (r : Result Seen LineRule) → read line ≡ r → Says line r
says_by line (Ok seen) e = found line seen e
says_by line (Err Form) e = (is_form line (Err Form) (sym e)).0 refl
says_by line (Err NotExtended) e = not_extended_found line e
says_by line (Err Long) e = long_found line e

-- a line gives what is said of it, and the command stays
pub record Line (lines : Lines) (number : ℕ) (line text : List ℕ) (after : Lines) : Type 0 where
  pub gives : Gives lines.command number line text
  pub same : after ≡ lines

is_line : (lines after : Lines) (number : ℕ) (line text : List ℕ) → LineGives IsAnswer lines number line text after → Line lines number line text after
unfolding LineGives Gives
is_line lines after number [] text g = record { gives = g.0; same = g.1 }
is_line lines after number (b ∷ bytes) text g = record { gives = (read (b ∷ bytes), says_by (b ∷ bytes) (read (b ∷ bytes)) refl, g.0); same = g.1 }

are_texts : (lines after : Lines) (n : ℕ) (read : List (List ℕ)) (bytes : List ℕ) → AreAnswers (LineGives IsAnswer) lines n read bytes after → AreTexts lines.command n read bytes
are_texts lines after n [] bytes a = a.0
are_texts lines after n (line ∷ rest) bytes a =
    let l = is_line lines a.2 n line a.0 a.3 in
    let texts : AreTexts a.2.command (n + 1) rest a.1 = are_texts a.2 after (n + 1) rest a.1 a.4 in
    (a.0, a.1, l.gives, subst (λ (k : Lines). AreTexts k.command (n + 1) rest a.1) l.same texts, a.5)

pub are_texts_of : (lines : Lines) (read : List (List ℕ)) (text : List ℕ) → IsTextFrom (LineGives IsAnswer) lines read text → AreTextsOf lines.command read text
are_texts_of lines read text a = are_texts lines a.0 1 read text a.1
