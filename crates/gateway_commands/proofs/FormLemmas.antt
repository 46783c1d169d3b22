-- The words of each command are of no other one.
use Rattle.std.proofs.Common.{◌≡◌, List, ℕ, refl, sym, ◌∙◌}
use Rattle.command_line.specs.declared.words.LineCommand.{LineCommand}
use Rattle.command_line.specs.declared.words.LineCommand.TheVariants.{Convert, Show}
use Rattle.command_line.specs.Words.{check_words, demo_words, line_words, replay_words, serve_words}

-- words are of one command over lines at most
pub one_line : (words : List (List ℕ)) (a b : LineCommand) → words ≡ line_words a → words ≡ line_words b → a ≡ b
one_line words Convert Convert is other = refl
one_line words Convert Show is other = let same : line_words Convert ≡ line_words Show = sym is ∙ other in absurd cc
one_line words Show Convert is other = let same : line_words Show ≡ line_words Convert = sym is ∙ other in absurd cc
one_line words Show Show is other = refl

pub one_check : (words : List (List ℕ)) (a b : List ℕ) → words ≡ check_words a → words ≡ check_words b → a ≡ b
one_check words a b is other = let same : check_words a ≡ check_words b = sym is ∙ other in cc

pub one_replay : (words : List (List ℕ)) (a b : List ℕ) → words ≡ replay_words a → words ≡ replay_words b → a ≡ b
one_replay words a b is other = let same : replay_words a ≡ replay_words b = sym is ∙ other in cc

pub line_or_check : (words : List (List ℕ)) (command : LineCommand) (file : List ℕ) → words ≡ line_words command → words ≡ check_words file → ⊥
line_or_check words command file is other = let same : line_words command ≡ check_words file = sym is ∙ other in absurd cc

pub line_or_replay : (words : List (List ℕ)) (command : LineCommand) (file : List ℕ) → words ≡ line_words command → words ≡ replay_words file → ⊥
line_or_replay words command file is other = let same : line_words command ≡ replay_words file = sym is ∙ other in absurd cc

pub line_or_serve : (words : List (List ℕ)) (command : LineCommand) (file turns : List ℕ) → words ≡ line_words command → words ≡ serve_words file turns → ⊥
line_or_serve words command file turns is other = let same : line_words command ≡ serve_words file turns = sym is ∙ other in absurd cc

pub line_or_demo : (words : List (List ℕ)) (command : LineCommand) (seed count : List ℕ) → words ≡ line_words command → words ≡ demo_words seed count → ⊥
line_or_demo words command seed count is other = let same : line_words command ≡ demo_words seed count = sym is ∙ other in absurd cc

pub check_or_replay : (words : List (List ℕ)) (a b : List ℕ) → words ≡ check_words a → words ≡ replay_words b → ⊥
check_or_replay words a b is other = let same : check_words a ≡ replay_words b = sym is ∙ other in absurd cc

pub check_or_serve : (words : List (List ℕ)) (a b turns : List ℕ) → words ≡ check_words a → words ≡ serve_words b turns → ⊥
check_or_serve words a b turns is other = let same : check_words a ≡ serve_words b turns = sym is ∙ other in absurd cc

pub check_or_demo : (words : List (List ℕ)) (file seed count : List ℕ) → words ≡ check_words file → words ≡ demo_words seed count → ⊥
check_or_demo words file seed count is other = let same : check_words file ≡ demo_words seed count = sym is ∙ other in absurd cc

pub replay_or_serve : (words : List (List ℕ)) (a b turns : List ℕ) → words ≡ replay_words a → words ≡ serve_words b turns → ⊥
replay_or_serve words a b turns is other = let same : replay_words a ≡ serve_words b turns = sym is ∙ other in absurd cc

pub replay_or_demo : (words : List (List ℕ)) (file seed count : List ℕ) → words ≡ replay_words file → words ≡ demo_words seed count → ⊥
replay_or_demo words file seed count is other = let same : replay_words file ≡ demo_words seed count = sym is ∙ other in absurd cc

pub serve_or_demo : (words : List (List ℕ)) (file turns seed count : List ℕ) → words ≡ serve_words file turns → words ≡ demo_words seed count → ⊥
serve_or_demo words file turns seed count is other = let same : serve_words file turns ≡ demo_words seed count = sym is ∙ other in absurd cc
