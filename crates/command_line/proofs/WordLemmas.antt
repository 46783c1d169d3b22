-- The words of a command.
use Rattle.std.proofs.Common.{◌≡◌, ℕ, List, [], ◌∷◌, sym, ◌∙◌, arith}
use Rattle.std.specs.Prelude.{codes}
use Rattle.std.proofs.lemmas.Fmt.{decimal_injective}
use Rattle.command_line.specs.Words.{AreNumbers, IsDemo, IsServe, IsTurns, demo_words, serve_words}

-- ---- the words of a demonstration

behind_name : (words : List (List ℕ)) (name a b c d : List ℕ) → words ≡ name ∷ a ∷ b ∷ [] → words ≡ name ∷ c ∷ d ∷ [] → (a ≡ c) × (b ≡ d)
behind_name words name a b c d is is' = let same : name ∷ a ∷ b ∷ [] ≡ name ∷ c ∷ d ∷ [] = sym is ∙ is' in let first : a ≡ c = cc in let second : b ≡ d = cc in (first, second)

-- words are of one demonstration at most
pub one_demo : (words : List (List ℕ)) (seed count seed' count' : ℕ) (first second : List ℕ) → IsDemo words seed count
    → words ≡ demo_words first second → AreNumbers seed' count' first second → (seed ≡ seed') × (count ≡ count')
one_demo words seed count seed' count' first second d are numbers =
    let same = behind_name words (codes "demo") d.first d.second first second d.are are in (
      decimal_injective seed seed' (omega (arith, d.numbers.is_seed.below)) (omega (arith, numbers.is_seed.below))
          (sym d.numbers.is_seed.spelled ∙ same.0 ∙ numbers.is_seed.spelled),
      decimal_injective count count' (omega (arith, d.numbers.is_count.below)) (omega (arith, numbers.is_count.below))
          (sym d.numbers.is_count.spelled ∙ same.1 ∙ numbers.is_count.spelled),
    )

-- ---- the words of a gateway between two links

-- words are of one file and one number of turns at most
pub one_serve : (words : List (List ℕ)) (turns turns' : ℕ) (file file' second : List ℕ) → IsServe words file turns → words ≡ serve_words file' second
    → IsTurns turns' second → (file ≡ file') × (turns ≡ turns')
one_serve words turns turns' file file' second s are number =
    let same = behind_name words (codes "serve") file s.second file' second s.are are in (
      same.0,
      decimal_injective turns turns' (omega (arith, s.number.below)) (omega (arith, number.below)) (sym s.number.spelled ∙ same.1 ∙ number.spelled),
    )
