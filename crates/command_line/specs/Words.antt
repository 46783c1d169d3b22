-- The words that are a command.
use Rattle.std.specs.Prelude.{◌≡◌, ◌≤◌, ℕ, List, [], ◌∷◌, codes, decimal}
use Rattle.command_line.specs.declared.words.Command.{Command}
use Rattle.command_line.specs.declared.words.Command.TheVariants.{Lines, Check, Replay, Serve, Demo}
use Rattle.command_line.specs.declared.words.LineCommand.{LineCommand}
use Rattle.command_line.specs.declared.words.LineCommand.TheVariants.{Convert, Show}

abbrev pub name_of : LineCommand → List ℕ
name_of Convert = codes "convert"
name_of Show = codes "show"

-- the words of each command, as their bytes
abbrev pub line_words : LineCommand → List (List ℕ)
line_words command = name_of command ∷ []

abbrev pub check_words : List ℕ → List (List ℕ)
check_words file = codes "check" ∷ file ∷ []

abbrev pub replay_words : List ℕ → List (List ℕ)
replay_words file = codes "replay" ∷ file ∷ []

abbrev pub serve_words : List ℕ → List ℕ → List (List ℕ)
serve_words file turns = codes "serve" ∷ file ∷ turns ∷ []

abbrev pub demo_words : List ℕ → List ℕ → List (List ℕ)
demo_words seed count = codes "demo" ∷ seed ∷ count ∷ []

-- a number of this range, in decimal digits without a leading zero
pub record IsNumber (least most n : ℕ) (word : List ℕ) : Type 0 where
  pub above : least ≤ n
  pub below : n ≤ most
  pub spelled : word ≡ decimal n

-- how many turns a gateway between two links takes
abbrev pub IsTurns : ℕ → List ℕ → Type 0
IsTurns turns word = IsNumber 1 999999999 turns word

pub record IsServe (words : List (List ℕ)) (file : List ℕ) (turns : ℕ) : Type 0 where
  pub second : List ℕ
  pub number : IsTurns turns second
  pub are : words ≡ serve_words file second

-- the words are no gateway between two links
abbrev pub IsNotServe : List (List ℕ) → Type 0
IsNotServe words = (file : List ℕ) (turns : ℕ) → IsServe words file turns → ⊥

-- the seed of a demonstration, and how many events it has
pub record AreNumbers (seed count : ℕ) (first second : List ℕ) : Type 0 where
  pub is_seed : IsNumber 0 999999999999999999 seed first
  pub is_count : IsNumber 1 1000000 count second

pub record IsDemo (words : List (List ℕ)) (seed count : ℕ) : Type 0 where
  pub first : List ℕ
  pub second : List ℕ
  pub numbers : AreNumbers seed count first second
  pub are : words ≡ demo_words first second

-- the words are this command
abbrev pub IsForm : List (List ℕ) → Command → Type 0
IsForm words (Lines command) = words ≡ line_words command
IsForm words (Check file) = words ≡ check_words file.now
IsForm words (Replay file) = words ≡ replay_words file.now
IsForm words (Serve file turns) = IsServe words file.now turns
IsForm words (Demo seed count) = IsDemo words seed count

-- a command is the demonstration of these two words, or none is
abbrev pub IsSaid : List ℕ → List ℕ → Command → Type 0
IsSaid first second (Lines command) = ⊥
IsSaid first second (Check file) = ⊥
IsSaid first second (Replay file) = ⊥
IsSaid first second (Serve file turns) = ⊥
IsSaid first second (Demo seed count) = AreNumbers seed count first second

abbrev pub IsNoDemo : List ℕ → List ℕ → Type 0
IsNoDemo first second = (seed count : ℕ) → AreNumbers seed count first second → ⊥

-- a command is the gateway between two links of these two words, or none is
abbrev pub AreTurnsOf : List ℕ → List ℕ → Command → Type 0
AreTurnsOf first second (Lines command) = ⊥
AreTurnsOf first second (Check file) = ⊥
AreTurnsOf first second (Replay file) = ⊥
AreTurnsOf first second (Serve file turns) = (file.now ≡ first) × IsTurns turns second
AreTurnsOf first second (Demo seed count) = ⊥

abbrev pub IsNoServe : List ℕ → Type 0
IsNoServe second = (turns : ℕ) → IsTurns turns second → ⊥

-- they are no command
pub record IsNoForm (words : List (List ℕ)) : Type 0 where
  pub lines : (command : LineCommand) → words ≡ line_words command → ⊥
  pub check : (file : List ℕ) → words ≡ check_words file → ⊥
  pub replay : (file : List ℕ) → words ≡ replay_words file → ⊥
  pub serve : (file second : List ℕ) → words ≡ serve_words file second → IsNoServe second
  pub demo : (first second : List ℕ) → words ≡ demo_words first second → IsNoDemo first second

abbrev pub usage_line : List ℕ
usage_line = codes "usage: shipgate convert | show | check CONFIG | replay CONFIG | serve CONFIG TURNS | demo SEED COUNT\n"
