-- What is read by the table.
use Rattle.std.proofs.Common.{◌≡◌, ℕ, zero, suc, ◌<◌, Bool, true, false, IsTrue, List, [], ◌∷◌, length, refl, arith, get_or, drop}
use Rattle.std.specs.Prelude.{Some, ◌&&◌, ◌==◌, if◌then◌else◌}
use Rattle.std.specs.List.{AllByRecursion, list_all}
use Rattle.std.proofs.lemmas.Bool.{and_parts}
use Rattle.quantities.specs.declared.payloads.Entry.{Entry}
use Rattle.quantities.specs.declared.part.Part.{Part}
use Rattle.quantities.specs.Part.{is_readable, is_selectable, selects}
use Rattle.quantities.specs.Told.{entries_of, entry_at, parts_of}
use Rattle.quantities.specs.Sound.{is_entry_readable}

-- what is found behind the entries that were passed is what is found in all
abbrev pub IsLeft : List Entry → List ℕ → ℕ → ℕ → Type 0
IsLeft group payload place i = entry_at (drop i group) payload place ≡ entry_at group payload place

pub readable_at : (table : List Entry) (i : ℕ) (d : Entry) → i < length table → IsTrue (list_all is_entry_readable table) → IsTrue (is_entry_readable (get_or table i d))
readable_at [] i d inside all = absurd (omega (arith, inside))
readable_at (e ∷ table) zero d inside all = (and_parts (is_entry_readable e) (list_all is_entry_readable table) all).0
readable_at (e ∷ table) (suc i) d inside all =
    readable_at table i d (omega (arith, inside)) (and_parts (is_entry_readable e) (list_all is_entry_readable table) all).1

-- each of an entry's parts can be read
pub parts_readable : (e : Entry) → IsTrue (is_entry_readable e) → AllByRecursion (λ p. IsTrue (is_readable p)) (parts_of e)
parts_readable e readable = each (parts_of e) (and_parts (is_selectable e.selector) (list_all is_readable (parts_of e)) readable).1
  where
    each : (parts : List Part) → IsTrue (list_all is_readable parts) → AllByRecursion (λ p. IsTrue (is_readable p)) parts
    each [] all = tt
    each (p ∷ parts) all = let both = and_parts (is_readable p) (list_all is_readable parts) all in (both.0, each parts both.1)

-- ---- the first entry of a table whose payload it is

abbrev pub is_of : ℕ → List ℕ → ℕ → Entry → Bool
is_of pgn payload place e = (e.pgn == pgn) && ((e.place == place) && selects e.selector payload)

pub first_found : (pgn : ℕ) (payload : List ℕ) (place : ℕ) (e : Entry) (table : List Entry)
    → entry_at (entries_of (e ∷ table) pgn) payload place ≡ (if is_of pgn payload place e then Some e else entry_at (entries_of table pgn) payload place)
first_found pgn payload place e table = by (e.pgn == pgn) refl
  where
    by : (b : Bool) → (e.pgn == pgn) ≡ b
        → entry_at (if b then e ∷ entries_of table pgn else entries_of table pgn) payload place
        ≡ (if b && ((e.place == place) && selects e.selector payload) then Some e else entry_at (entries_of table pgn) payload place)
    by true is = refl
    by false is = refl
