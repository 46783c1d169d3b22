-- The lists of parameter groups.
use Rattle.std.proofs.Common.{◌≡◌, ℕ, ◌+◌, ◌*◌, ◌^◌, ◌<◌, ◌≤◌, not, nat_lt, Bool, true, false, cond, None, Some, List, [], ◌∷◌, length, refl, ap, ◌∙◌, arith}
use Rattle.std.specs.List.{AllByRecursion, list_all, position, position_or_len}
use Rattle.std.proofs.lemmas.List.Sums.{prefix_len-le-length}
use Rattle.std.proofs.lemmas.Bool.{and_parts}
use Rattle.std.proofs.lemmas.Bool.Decides.{nat_tests}
use Rattle.readings.specs.declared.rows.Row.{Row}
use Rattle.readings.specs.Rows.{rows}
use Rattle.bus_identity.specs.PgnLists.{received, received_with, sent, sent_with}

pub past_all : (p : ℕ → Bool) (ns : List ℕ) → position p ns ≡ None → length ns ≡ position_or_len p ns
past_all p ns e = by (nat_lt (position_or_len p ns) (length ns)) refl e
  where
    by : (t : Bool) → nat_lt (position_or_len p ns) (length ns) ≡ t → cond t (Some (position_or_len p ns)) None ≡ None → length ns ≡ position_or_len p ns
    by true l f = cc
    by false l f = let most = prefix_len-le-length (λ n. not (p n)) ns in let least : length ns ≤ position_or_len p ns = grind (arith, nat_tests) in omega (arith, most, least)

-- ---- the lists are of all rows

pub sent_is : (all : List Row) (groups pgns : List ℕ) → all ≡ rows → groups ≡ sent_with all → pgns ≡ groups → pgns ≡ sent
unfolding rows sent
sent_is all groups pgns e f g = g ∙ f ∙ ap sent_with e

pub received_is : (all : List Row) (groups pgns : List ℕ) → all ≡ rows → groups ≡ received_with all → pgns ≡ groups → pgns ≡ received
unfolding rows received
received_is all groups pgns e f g = g ∙ f ∙ ap received_with e

-- ---- they can be written: in three bytes each, within a payload

pub record CanBeListed (pgns : List ℕ) : Type 0 where
  pub room : 1 + 3 * length pgns ≤ 134
  pub small : AllByRecursion (λ pgn. pgn < 2 ^ 24) pgns

all_small : (pgns : List ℕ) → list_all (λ pgn. nat_lt pgn (2 ^ 24)) pgns ≡ true → AllByRecursion (λ pgn. pgn < 2 ^ 24) pgns
all_small [] is = tt
all_small (pgn ∷ pgns) is =
    let both = and_parts (nat_lt pgn (2 ^ 24)) (list_all (λ n. nat_lt n (2 ^ 24)) pgns) is in
    (let below = both.0 in grind (arith, nat_tests), all_small pgns both.1)

can_be_listed : (pgns : List ℕ) → 1 + 3 * length pgns ≤ 134 → list_all (λ pgn. nat_lt pgn (2 ^ 24)) pgns ≡ true → CanBeListed pgns
can_be_listed pgns room is = record { room = room; small = all_small pgns is }

pub sent_can_be_listed : CanBeListed sent
unfolding sent
sent_can_be_listed = can_be_listed _ (omega arith) refl

pub received_can_be_listed : CanBeListed received
unfolding received
received_can_be_listed = can_be_listed _ (omega arith) refl
