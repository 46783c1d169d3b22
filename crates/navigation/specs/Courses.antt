-- Where an address goes by its own messages, since the NAME that holds it does: whether a leg names the goal of the leg before it again, and the error that
-- stands beside it.
use Rattle.std.specs.Prelude.{ℕ, ◌+◌, ◌*◌, ℤ, Bool, ◌&&◌, ◌==◌, nat_le, nat_lt, List, [], ◌∷◌, filter, find, Option, Some, None, if◌then◌else◌, true, false}
use Rattle.claim_table.specs.declared.answer.Holder.{Holder}
use Rattle.history.specs.Known.{held_since}
use Rattle.history.specs.Messages.{Message}
use Rattle.navigation.specs.declared.leg.Goal.{Goal}
use Rattle.navigation.specs.Legs.{error_in, goal_in, is_error, is_leg, is_same}

-- ---- the messages of an address that hold, the last first: those since its holder has it

abbrev pub is_from : ℕ → ℕ → Message → Bool
is_from source since d = (d.source == source) && nat_le since d.index

abbrev pub from_since : ℕ → List Message → Option ℕ → List Message
from_since source older None = []
from_since source older (Some since) = filter (is_from source since) older

abbrev pub that_hold : List (Option Holder) → List Message → ℕ → List Message
that_hold holders older source = from_since source older (held_since holders source)

-- ---- a stretch: legs of one goal, one after the other without another leg between them

abbrev pub legs_in : List Message → List Message
legs_in messages = filter is_leg messages

-- of legs, the last first, those that have this goal, up to one that has another
abbrev pub stretch : Goal → List Message → List Message
stretch goal [] = []
stretch goal (d ∷ legs) = if is_same (goal_in d.payload) goal then d ∷ stretch goal legs else []

-- the index of its first leg, where it ends with a leg of this index
abbrev pub first_index : ℕ → List Message → ℕ
first_index index [] = index
first_index index (d ∷ legs) = first_index d.index legs

abbrev pub is_any : List Message → Bool
is_any [] = false
is_any (d ∷ more) = true

-- ---- a leg behind the messages of its source that hold

-- the last leg before it has its goal
abbrev pub is_named_again : List Message → List ℕ → Bool
is_named_again before payload = is_any (stretch (goal_in payload) (legs_in before))

-- behind the first leg of the stretch that ends with it
abbrev pub is_error_behind : ℕ → Message → Bool
is_error_behind index d = is_error d && nat_lt index d.index

abbrev pub last_error : ℕ → List Message → Option Message
last_error index messages = find (is_error_behind index) messages

abbrev pub error_of_stretch : List Message → ℕ → List ℕ → Option Message
error_of_stretch before index payload = last_error (first_index index (stretch (goal_in payload) (legs_in before))) before

-- where it isn't older at a moment than the timeout, in milliseconds
abbrev pub fresh_error : ℕ → ℕ → Option Message → Option Message
fresh_error timeout m None = None
fresh_error timeout m (Some d) = if nat_le m (d.moment + 1000 * timeout) then Some d else None

abbrev pub error_said : Option Message → Option ℤ
error_said None = None
error_said (Some d) = error_in d.payload
