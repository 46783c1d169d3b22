-- Which of two ranks is the smaller one.
use Rattle.std.specs.Prelude.{◌≡◌, ◌<◌, ◌⊎◌, Bool, ◌&&◌, ◌||◌, ◌==◌, nat_lt}
use Rattle.source_choice.specs.declared.rank.Rank.{Rank}

-- ranks are compared by place, then by NAME
abbrev pub is_before : Rank → Rank → Bool
is_before a b = nat_lt a.place b.place || ((a.place == b.place) && nat_lt a.name b.name)

-- the same as a relation
abbrev pub IsBefore : Rank → Rank → Type 0
IsBefore a b = (a.place < b.place) ⊎ ((a.place ≡ b.place) × (a.name < b.name))
