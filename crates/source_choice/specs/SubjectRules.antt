-- From which devices a subject is taken, and how they rank, by their NAMEs (ISO 11783-5).
use Rattle.std.specs.Prelude.{ℕ, ◌+◌, Bool, List, [], ◌∷◌, Option, Some, None, option_map, if◌then◌else◌}
use Rattle.std.specs.List.{list_any}
use Rattle.n2k_id.specs.declared.pattern.Pattern.{Pattern}
use Rattle.n2k_id.specs.Name.{matches}
use Rattle.source_choice.specs.declared.rank.Rank.{Rank}

pub record SubjectRule : Type 0 where
  -- the devices in their order of preference, and whether others are taken after them
  pub sources : List Pattern
  pub others : Bool
  -- the devices that it isn't taken from, though they be listed or others be taken
  pub ignored : List Pattern
  -- how long a source counts after its last usable message, in milliseconds
  pub timeout : ℕ

-- a rank is the first place of the list whose pattern matches the NAME, and the NAME; others come after all listed ones, where they are taken
abbrev pub place_in : Bool → ℕ → List Pattern → ℕ → Option ℕ
place_in others at [] name = if others then Some at else None
place_in others at (p ∷ ps) name = if matches p name then Some at else place_in others (at + 1) ps name

abbrev pub rank_among : SubjectRule → ℕ → Option Rank
rank_among rule name = option_map (λ place. record { place = place; name = name }) (place_in rule.others 0 rule.sources name)

-- a device that one of the patterns matches
abbrev pub is_matched : List Pattern → ℕ → Bool
is_matched patterns name = list_any (λ p. matches p name) patterns

-- a device that the subject isn't taken from has none
abbrev pub rank_of : SubjectRule → ℕ → Option Rank
rank_of rule name = if is_matched rule.ignored name then None else rank_among rule name

-- the place behind all patterns, where no pattern has one and others are taken
abbrev pub or_last : Bool → ℕ → Option ℕ → Option ℕ
or_last others count None = if others then Some count else None
or_last others count (Some place) = Some place
