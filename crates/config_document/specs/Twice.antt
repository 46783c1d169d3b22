-- Lists in which nothing may stand twice.
use Rattle.std.specs.Prelude.{Bool, false, ◌||◌, List, [], ◌∷◌}
use Rattle.std.specs.List.{list_any}

-- something stands twice, by a test for what is the same
abbrev pub repeats : {A : Type 0} → (A → A → Bool) → List A → Bool
repeats same [] = false
repeats same (x ∷ xs) = list_any (λ y. same y x) xs || repeats same xs
