-- What was noted of addresses that change hands is forgotten: of the one that was left before the one that was won.
use Rattle.std.specs.Prelude.{ℕ, Bool, nat_lt, Option, Some, None, if◌then◌else◌}
use Rattle.claim_table.specs.Claims.{places}
use Rattle.source_choice.specs.Choices.{Choices, forgotten}
use Rattle.gate_model.specs.Addresses.{Changed}

-- an address that a device can have: nothing is noted of others
abbrev pub has_place : ℕ → Bool
has_place a = nat_lt a places

abbrev pub forgotten_at : Option ℕ → Choices → Choices
forgotten_at None choices = choices
forgotten_at (Some a) choices = if has_place a then forgotten choices a else choices

abbrev pub forgotten_of : Changed → Choices → Choices
forgotten_of changed choices = forgotten_at changed.won (forgotten_at changed.left choices)
