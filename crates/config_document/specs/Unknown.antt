-- Keys that aren't known, and the least of their paths in the order of bytes.
use Rattle.std.specs.Prelude.{ℕ, Bool, false, ◌||◌, nat_eq, List, [], ◌∷◌, ◌++◌, Option, Some, None, Vec, option_map, if◌then◌else◌}
use Rattle.std.specs.Cmp.Lexicographic.{pointwise, slice_cmp}
use Rattle.std.specs.Ordering.{is_lt, nat_cmp}
use Rattle.std.specs.declared.alloc.Global.{Global}
use Rattle.toml.specs.Data.{Members, no_members, member}
use Rattle.config_document.specs.Places.{Place}

abbrev pub is_among : List ℕ → List (List ℕ) → Bool
is_among name [] = false
is_among name (word ∷ words) = pointwise nat_eq name word || is_among name words

-- the paths of those keys of a table that aren't among the known ones
abbrev pub unknown_members : List (List ℕ) → List ℕ → Members → List (List ℕ)
unknown_members known prefix no_members = []
unknown_members known prefix (member name value more) =
    if is_among name known then unknown_members known prefix more else (prefix ++ name) ∷ unknown_members known prefix more

abbrev pub unknown_in : List (List ℕ) → Place → List (List ℕ)
unknown_in known place = unknown_members known place.prefix place.members

-- what code sees as a path
abbrev pub path_seen : Option (Vec ℕ Global) → Option (List ℕ)
path_seen path = option_map (λ p. p.items) path

abbrev pub lesser : Option (List ℕ) → List ℕ → Option (List ℕ)
lesser None path = Some path
lesser (Some best) path = if is_lt (slice_cmp nat_cmp path best) then Some path else Some best

-- the least of a path, where there is one, and others
abbrev pub least_of : Option (List ℕ) → List (List ℕ) → Option (List ℕ)
least_of best [] = best
least_of best (path ∷ paths) = least_of (lesser best path) paths
