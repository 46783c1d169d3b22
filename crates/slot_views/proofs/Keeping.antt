-- Each step on the map leaves all entries but the key's own.
use Rattle.std.proofs.Common.{◌≡◌, ℕ, suc, ◌≤◌, Bool, true, false, not, if◌then◌else◌, List, [], ◌∷◌, length, refl, ◌∙◌, Option, Some, None, IsSome, arith}
use Rattle.std.proofs.lemmas.Bool.{eqb-false}
use Rattle.std.specs.List.{AllByRecursion}
use Rattle.std.specs.Cmp.{IsTotalOrder}
use Rattle.std.specs.declared.cmp.Ordering.{Ordering}
use Rattle.std.specs.BTreeMap.{is_at, insert_entry}
use Rattle.std.proofs.lemmas.Map.{length-set_value}
use Rattle.slot_views.specs.Slots.{Entry, SlotMap, IsOrdered, IsMap, Changes, entry_at, is_full, released, added, changed, begun_after, grown_after}
use Rattle.slot_views.specs.Traces.{if_incomplete, grown_entry}
use Rattle.slot_views.proofs.Steps.{released_absent}
use Rattle.slot_views.proofs.Tied.{all_removed, all_written, all_inserted, same_itself, removed_at, written_at, inserted_at, ordered_removed, ordered_written, ordered_inserted}
use Rattle.slot_views.proofs.Traces.{released_fewer}

-- all but the entry of one key is as before
pub record Keeps {K : Type 0} (cmp : K → K → Ordering) (s : SlotMap K) (k : K) (t : SlotMap K) : Type 0 where
  pub others : (j : K) → is_at (cmp k) j ≡ false → entry_at cmp t j ≡ entry_at cmp s j
  pub ordered : IsOrdered cmp t.entries
  pub limit : t.limit ≡ s.limit
  pub within : length s.entries ≤ s.limit → length t.entries ≤ s.limit
  -- what holds of this key and of all that were held holds of all that are held
  pub keys : (p : K → Bool) → p k ≡ true → AllByRecursion (λ d. p d.0 ≡ true) s.entries → AllByRecursion (λ d. p d.0 ≡ true) t.entries

-- so a map is changed at its key alone
pub changes_of : {K : Type 0} {cmp : K → K → Ordering} (s t : SlotMap K) (k : K) (e : Option Entry) → IsMap cmp s → Keeps cmp s k t → entry_at cmp t k ≡ e → Changes cmp s t k e
changes_of s t k e map keeps here = grind arith

module _ {K : Type 0} {cmp : K → K → Ordering} (o : IsTotalOrder cmp) (s : SlotMap K) (k : K) (sorted : IsOrdered cmp s.entries) where
  pub same_keeps : Keeps cmp s k s
  same_keeps = record { others = λ j other. refl; ordered = sorted; limit = refl; within = λ le. le; keys = λ p here all. all }

  -- without the key
  pub released_here : entry_at cmp (released cmp s k) k ≡ None
  released_here = removed_at o k k s.entries sorted ∙ rw (same_itself o k) refl

  released_others : (j : K) → is_at (cmp k) j ≡ false → entry_at cmp (released cmp s k) j ≡ entry_at cmp s j
  released_others j other = removed_at o k j s.entries sorted ∙ rw other refl

  released_within : length (released cmp s k).entries ≤ length s.entries
  released_within = grind (arith, released_fewer, released_absent)

  pub released_keeps : Keeps cmp s k (released cmp s k)
  released_keeps = record {
    others = released_others;
    ordered = ordered_removed o (is_at (cmp k)) s.entries sorted;
    limit = refl;
    within = λ le. let fewer = released_within in omega (arith, le, fewer);
    keys = λ p here all. all_removed o (λ x. p x ≡ true) (is_at (cmp k)) s.entries all;
  }

  -- with another entry at the key, which is held
  written_length : (w : Entry) → length (changed cmp s k w).entries ≡ length s.entries
  written_length w = length-set_value (is_at (cmp k)) s.entries w

  changed_keeps : (w : Entry) → IsSome (entry_at cmp s k) → Keeps cmp s k (changed cmp s k w)
  changed_keeps w held = record {
    others = λ j other. written_at o k j s.entries w held ∙ rw other refl;
    ordered = ordered_written o (is_at (cmp k)) w s.entries sorted;
    limit = refl;
    within = λ le. let same = written_length w in omega (arith, le, same);
    keys = λ p here all. all_written o (λ x. p x ≡ true) (is_at (cmp k)) w s.entries all;
  }

  changed_here : (w : Entry) → IsSome (entry_at cmp s k) → entry_at cmp (changed cmp s k w) k ≡ Some w
  changed_here w held = written_at o k k s.entries w held ∙ rw (same_itself o k) refl

  -- with a new entry at the key
  inserted_by : (e : K × Entry) (es : List (K × Entry)) (v : Entry) (r : Ordering) → cmp k e.0 ≡ r → length (insert_entry cmp es k v) ≤ suc (length es) → length (insert_entry cmp (e ∷ es) k v) ≤ suc (length (e ∷ es))
  inserted_by e es v r is rest = grind arith

  inserted_length : (v : Entry) (es : List (K × Entry)) → length (insert_entry cmp es k v) ≤ suc (length es)
  inserted_length v [] = omega arith
  inserted_length v (e ∷ es) = inserted_by e es v _ refl (inserted_length v es)

  added_within : (v : Entry) → is_full cmp s k ≡ false → length s.entries ≤ s.limit → length (added cmp (released cmp s k) k v).entries ≤ s.limit
  added_within v room le = grind (arith, inserted_length, released_fewer, released_absent, eqb-false)

  added_keeps : (v : Entry) → is_full cmp s k ≡ false → Keeps cmp s k (added cmp (released cmp s k) k v)
  added_keeps v room = record {
    others = λ j other. inserted_at o k j v (released cmp s k).entries ∙ (rw other refl ∙ released_others j other);
    ordered = ordered_inserted o k v (released cmp s k).entries (ordered_removed o (is_at (cmp k)) s.entries sorted);
    limit = refl;
    within = added_within v room;
    keys = λ p here all. all_inserted o (λ x. p x ≡ true) k v (released cmp s k).entries (all_removed o (λ x. p x ≡ true) (is_at (cmp k)) s.entries all) here;
  }

  added_here : (v : Entry) → entry_at cmp (added cmp (released cmp s k) k v) k ≡ Some v
  added_here v = inserted_at o k k v (released cmp s k).entries ∙ rw (same_itself o k) refl

  -- an opening
  pub begun_keeps : (e : Entry) → Keeps cmp s k (begun_after cmp s k e)
  begun_keeps e = grind (arith, same_keeps, released_keeps, added_keeps)

  full_absent : is_full cmp s k ≡ true → entry_at cmp s k ≡ None
  full_absent full = grind arith

  pub begun_here : (e : Entry) → entry_at cmp (begun_after cmp s k e) k ≡ (if not (is_full cmp s k) then if_incomplete e else None)
  begun_here e = grind (arith, full_absent, released_here, added_here)

  -- a growth
  module _ (next : ℕ) (piece : List ℕ) (moment gap : ℕ) where
    pub grown_keeps : Keeps cmp s k (grown_after cmp s k next piece moment gap)
    grown_keeps = grind (arith, released_keeps, changed_keeps, same_keeps)

    pub grown_here : entry_at cmp (grown_after cmp s k next piece moment gap) k ≡ grown_entry next piece moment gap (entry_at cmp s k)
    grown_here = grind (arith, released_here, changed_here)
