-- The place of a NAME among the patterns of a subject.
use Rattle.std.proofs.Common.{◌≡◌, ℕ, ◌+◌, Bool, List, [], ◌∷◌, length, None, ap, arith}
use Rattle.std.specs.List.{position, position_from}
use Rattle.std.proofs.lemmas.Iterator.Adapters.{position_from-zero}
use Rattle.n2k_id.specs.declared.pattern.Pattern.{Pattern}
use Rattle.n2k_id.specs.Name.{matches}
use Rattle.source_choice.specs.SubjectRules.{or_last, place_in}

place_from : (others : Bool) (name at : ℕ) (ps : List Pattern)
    → place_in others at ps name ≡ or_last others (at + length ps) (position_from (λ p. matches p name) at ps)
place_from others name at [] = let same : at ≡ at + 0 = omega arith in ap (λ n. or_last others n None) same
place_from others name at (p ∷ ps) = grind (arith, place_from others name (at + 1) ps)

pub place_is : (others : Bool) (ps : List Pattern) (name : ℕ)
    → place_in others 0 ps name ≡ or_last others (length ps) (position (λ p. matches p name) ps)
place_is others ps name = grind (arith, place_from, position_from-zero)
