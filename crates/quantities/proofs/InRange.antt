-- What is read is in its range.
use Rattle.std.proofs.Common.{◌≡◌, ℕ, ◌*◌, pos, Bool, true, false, List, [], ◌∷◌, map, refl, subst, sym, arith, inl, inr}
use Rattle.std.specs.Prelude.{Option, Some, None, if◌then◌else◌, not, ◌&&◌, nat_lt, length}
use Rattle.readings.specs.Ranges.{Admits, from_to, up_to}
use Rattle.readings.specs.declared.range.Range.{Range}
use Rattle.pgn_profile.specs.Part.{multiple, part, signed, signed_value, times, unsigned, unsigned_value}
use Rattle.pgn_profile.proofs.Parts.{are_in}
use Rattle.quantities.specs.declared.part.Part.{Part}
use Rattle.quantities.specs.declared.part.Part.TheVariants.{Absent, Unsigned, Multiple, Signed}
use Rattle.quantities.specs.declared.payloads.Entry.{Entry}
use Rattle.quantities.specs.declared.value.Told.{Told}
use Rattle.quantities.specs.declared.value.Told.TheVariants as says
use Rattle.quantities.specs.declared.value.Value.{Value}
use Rattle.quantities.specs.Part.{AreIn, bounds_of, value_in}
use Rattle.quantities.specs.Saying.{is_usable}
use Rattle.quantities.specs.Told.{GivesFrom, IsAnyFrom, entries, entries_of, entry_at, first_of, given, given_by, parts_of, told, told_by, value_at, value_by, values_in}
use Rattle.quantities.specs.Laws.{EachIsInRange}
use Rattle.quantities.proofs.Found.{first_found, is_of}

-- each content of a part is read in its range
unsigned_in : (place width : ℕ) (range : Range) (payload : List ℕ) → Admits range (unsigned_value place width range payload)
unsigned_in place width range payload = (are_in (unsigned place width range ∷ []) payload).0

signed_in : (place width : ℕ) (range : Range) (payload : List ℕ) → Admits range (signed_value place width range payload)
signed_in place width range payload = (are_in (signed place width range ∷ []) payload).0

multiple_in : (place width high factor : ℕ) (payload : List ℕ) → Admits (up_to (high * factor)) (times factor (unsigned_value place width (up_to high) payload))
multiple_in place width high factor payload =
    let zeros : 0 * factor ≡ 0 = omega arith in
    subst (λ (low : ℕ). Admits (from_to (pos low) (pos (high * factor))) (times factor (unsigned_value place width (up_to high) payload))) zeros
    ((are_in (part place width (multiple factor 0 high) ∷ []) payload).0)

part_in : (part : Part) (payload : List ℕ) → Admits (bounds_of part) (value_in part payload)
part_in Absent payload = tt
part_in (Unsigned place width range) payload = unsigned_in place width range payload
part_in (Multiple place width high factor) payload = multiple_in place width high factor payload
part_in (Signed place width range) payload = signed_in place width range payload

all_in : (parts : List Part) (payload : List ℕ) → AreIn parts (map (λ p. value_in p payload) parts)
all_in [] payload = tt
all_in (part ∷ parts) payload = (part_in part payload, all_in parts payload)

-- what an entry gives
given_in : (table : List Entry) (e : Entry) (payload : List ℕ) → IsAnyFrom (e ∷ table) (given e payload)
given_in table e payload = by (e.only_usable && not (is_usable (value_by e payload)))
  where
    by : (b : Bool) → IsAnyFrom (e ∷ table) (if b then None else Some (value_by e payload))
    by true = tt
    by false = inl (refl, all_in (parts_of e) payload)

-- what is found in a table is of it
found_in : (table : List Entry) (pgn : ℕ) (payload : List ℕ) (place : ℕ) → IsAnyFrom table (value_at (entries_of table pgn) payload place)
found_in [] pgn payload place = tt
found_in (e ∷ table) pgn payload place =
    subst (λ (o : Option Entry). IsAnyFrom (e ∷ table) (given_by o payload)) (sym (first_found pgn payload place e table))
    (by (is_of pgn payload place e) (found_in table pgn payload place))
  where
    more : (v : Option Value) → IsAnyFrom table v → IsAnyFrom (e ∷ table) v
    more None is = tt
    more (Some v) is = inr is

    by : (b : Bool) → IsAnyFrom table (value_at (entries_of table pgn) payload place)
        → IsAnyFrom (e ∷ table) (given_by (if b then Some e else entry_at (entries_of table pgn) payload place) payload)
    by true is = given_in table e payload
    by false is = more (value_at (entries_of table pgn) payload place) is

pub in_range : EachIsInRange
in_range table pgn payload = by (first_of (entries_of table pgn))
  where
    by : (o : Option Entry) → GivesFrom table (told_by o (entries_of table pgn) payload)
    by None = tt
    by (Some first) = short (nat_lt (length payload) first.least)
      where
        short : (b : Bool) → GivesFrom table (if b then says.Short else says.Values (values_in (entries_of table pgn) payload))
        short true = tt
        short false = (found_in table pgn payload 0, (found_in table pgn payload 1, (found_in table pgn payload 2, tt)))

pub is_from : (t : Told) (pgn : ℕ) (payload : List ℕ) → t ≡ told pgn payload → GivesFrom entries t
is_from t pgn payload is = rw is (in_range entries pgn payload)
