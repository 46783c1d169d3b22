-- The parameter groups by which a device says who it is, by their numbers.
use Rattle.std.specs.Prelude.{ℕ, Bool, ◌==◌, nat_le, List, [], ◌∷◌, if◌then◌else◌}
use Rattle.std.specs.List.{flat_map, insert, list_any, position_or_len}
use Rattle.std.specs.Option.{option_to_list}
use Rattle.n2k_id.specs.Pgns.{address_claimed, request, acknowledgement, connection_management, data_transfer, commanded_address}
use Rattle.readings.specs.declared.rows.Row.{Row}
use Rattle.readings.specs.Rows.{about_of, every_row}

-- which parameter groups a device sends, and which it takes in
abbrev pub pgn_lists : ℕ
pgn_lists = 126464

-- what a device is
abbrev pub product_information : ℕ
product_information = 126996

-- ---- the lists

abbrev pub has : List ℕ → ℕ → Bool
has pgns pgn = list_any (λ p. p == pgn) pgns

-- a group among others in ascending order, once: in the first place that no smaller one has
abbrev pub with_group : ℕ → List ℕ → List ℕ
with_group pgn groups = if has groups pgn then groups else insert groups (position_or_len (nat_le pgn) groups) pgn

abbrev pub with_groups : List ℕ → List ℕ → List ℕ
with_groups groups [] = groups
with_groups groups (pgn ∷ more) = with_groups (with_group pgn groups) more

-- each group once, in the order of their numbers
abbrev pub ascending : List ℕ → List ℕ
ascending pgns = with_groups [] pgns

-- those that a row is sent by, and taken in by
abbrev pub sent_by : Row → List ℕ
sent_by r = (about_of r).pgn ∷ []

abbrev pub taken_by : Row → List ℕ
taken_by r = (about_of r).pgn ∷ option_to_list (about_of r).also

-- those that the gateway sends: as a device, and of these rows
abbrev pub sent_as_device : List ℕ
sent_as_device = acknowledgement ∷ request ∷ connection_management ∷ address_claimed ∷ pgn_lists ∷ product_information ∷ []

abbrev pub sent_with : List Row → List ℕ
sent_with rows = with_groups (ascending sent_as_device) (flat_map sent_by rows)

unfoldable pub sent : List ℕ
sent = sent_with every_row

-- those that it takes in
abbrev pub received_as_device : List ℕ
received_as_device = request ∷ data_transfer ∷ connection_management ∷ address_claimed ∷ commanded_address ∷ []

abbrev pub received_with : List Row → List ℕ
received_with rows = with_groups (ascending received_as_device) (flat_map taken_by rows)

unfoldable pub received : List ℕ
received = received_with every_row
