-- What a message says of the quantities.
use Rattle.std.specs.Prelude.{◌≡◌, ◌⊎◌, ℕ, ◌<◌, not, ◌&&◌, ◌==◌, nat_lt, List, [], ◌∷◌, length, map, filter, find, slice_get, Option, Some, None, IfSome, if◌then◌else◌}
use Rattle.std.specs.List.{AllByRecursion}
use Rattle.pgn_profile.specs.declared.kinds.Kind.{Kind}
use Rattle.pgn_profile.specs.declared.kinds.Kind.TheVariants.{Outside}
use Rattle.quantities.specs.declared.part.Part.{Part}
use Rattle.quantities.specs.declared.payloads.Entry.{Entry}
use Rattle.quantities.specs.declared.value.Told.{Told}
use Rattle.quantities.specs.declared.value.Told.TheVariants as says
use Rattle.quantities.specs.declared.value.Value.{Value}
use Rattle.quantities.specs.About.{number_of}
use Rattle.quantities.specs.Part.{AreIn, selects, value_in}
use Rattle.quantities.specs.Saying.{is_usable}
unfoldable pub use Rattle.quantities.specs.Payloads.{entries}

-- the entries of a parameter group
abbrev pub entries_of : List Entry → ℕ → List Entry
entries_of table pgn = filter (λ e. e.pgn == pgn) table

-- the first of them says how the parameter group comes and how long it is at least
abbrev pub first_of : List Entry → Option Entry
first_of group = slice_get group 0

abbrev pub kind_by : Option Entry → Kind
kind_by None = Outside
kind_by (Some e) = e.kind

-- how a message of the parameter group comes
abbrev pub kind_of : ℕ → Kind
kind_of pgn = kind_by (first_of (entries_of entries pgn))

-- ---- a value of a message, by its place among them

abbrev pub parts_of : Entry → List Part
parts_of e = e.parts.first ∷ e.parts.second ∷ e.parts.third ∷ e.parts.fourth ∷ e.parts.fifth ∷ e.parts.sixth ∷ []

-- the value of an entry's payload
abbrev pub value_by : Entry → List ℕ → Value
value_by e payload = record { quantity = e.quantity; values = map (λ p. value_in p payload) (parts_of e) }

-- what it gives: of some parameter groups only what is usable
abbrev pub given : Entry → List ℕ → Option Value
given e payload = if e.only_usable && not (is_usable (value_by e payload)) then None else Some (value_by e payload)

abbrev pub given_by : Option Entry → List ℕ → Option Value
given_by None payload = None
given_by (Some e) payload = given e payload

-- the entry whose payload it is, of those of the group that give the value at this place
abbrev pub entry_at : List Entry → List ℕ → ℕ → Option Entry
entry_at group payload place = find (λ e. (e.place == place) && selects e.selector payload) group

abbrev pub value_at : List Entry → List ℕ → ℕ → Option Value
value_at group payload place = given_by (entry_at group payload place) payload

-- ---- all that it says

abbrev pub values_in : List Entry → List ℕ → List (Option Value)
values_in group payload = value_at group payload 0 ∷ value_at group payload 1 ∷ value_at group payload 2 ∷ []

-- of how many quantities a message tells at most
abbrev pub most_told : ℕ
most_told = 3

abbrev pub told_by : Option Entry → List Entry → List ℕ → Told
told_by None group payload = says.Outside
told_by (Some first) group payload = if nat_lt (length payload) first.least then says.Short else says.Values (values_in group payload)

-- what the payload of a message of the parameter group says, by a table
abbrev pub told_in : List Entry → ℕ → List ℕ → Told
told_in table pgn payload = told_by (first_of (entries_of table pgn)) (entries_of table pgn) payload

abbrev pub told : ℕ → List ℕ → Told
told pgn payload = told_in entries pgn payload

-- ---- a value in its ranges

-- the table has an entry of the value's quantity in whose ranges its values are
abbrev pub IsFrom : List Entry → Value → Type 0
IsFrom [] v = ⊥
IsFrom (e ∷ table) v = ((e.quantity ≡ v.quantity) × AreIn (parts_of e) v.values) ⊎ IsFrom table v

-- a value, if there is one, is in the ranges of the table
abbrev pub IsAnyFrom : List Entry → Option Value → Type 0
IsAnyFrom table value = IfSome value (IsFrom table)

abbrev pub GivesFrom : List Entry → Told → Type 0
GivesFrom table (says.Values values) = AllByRecursion (IsAnyFrom table) values
GivesFrom table says.Outside = Unit {0}
GivesFrom table says.Short = Unit {0}

-- ---- the values are of different quantities, in the order of the quantities

abbrev pub IsBefore : Option Value → Option Value → Type 0
IsBefore None w = Unit {0}
IsBefore (Some v) None = Unit {0}
IsBefore (Some v) (Some w) = number_of v.quantity < number_of w.quantity

abbrev pub AreInOrder : List (Option Value) → Type 0
AreInOrder [] = Unit {0}
AreInOrder (v ∷ vs) = AllByRecursion (IsBefore v) vs × AreInOrder vs

abbrev pub IsInOrder : Told → Type 0
IsInOrder (says.Values values) = AreInOrder values
IsInOrder says.Outside = Unit {0}
IsInOrder says.Short = Unit {0}
