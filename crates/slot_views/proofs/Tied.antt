-- What the edits of a map with rising keys make of each key's entry.
use Rattle.std.proofs.Common.{◌≡◌, ℕ, Bool, true, false, not, List, [], ◌∷◌, refl, ◌∙◌, ap, Some, None, IsSome, cond, arith}
use Rattle.std.specs.List.{AllByRecursion, IsDistinct, filter}
use Rattle.std.specs.List.Sorted.{IsStrictlySortedBy}
use Rattle.std.specs.Cmp.{IsTotalOrder}
use Rattle.std.specs.Ordering.{ordering_reverse, eq_by_cmp}
use Rattle.std.specs.declared.cmp.Ordering.{Ordering}
use Rattle.std.specs.declared.cmp.Ordering.TheVariants.{Less, Equal, Greater}
use Rattle.std.specs.Map.{lookup, remove_entry, set_value, keys_of}
use Rattle.std.specs.BTreeMap.{is_at, insert_entry}
use Rattle.std.proofs.lemmas.Cmp.{eq_by_cmp_equiv}
use Rattle.std.proofs.lemmas.Map.{lookup-remove_entry, lookup-set_value}
use Rattle.std.proofs.lemmas.Map.Keys.{IsDistinct-from_sorted}
use Rattle.slot_views.specs.Slots.{Entry, IsOrdered, has_expired}
use Rattle.slot_views.specs.Traces.{left_at}

module _ {K : Type 0} {cmp : K → K → Ordering} (o : IsTotalOrder cmp) where
  -- two keys are the same or aren't, whichever is asked
  pub same_turned : (k j : K) → is_at (cmp k) j ≡ is_at (cmp j) k
  same_turned k j = (eq_by_cmp_equiv o).symm k j

  pub same_as : (k j x : K) → is_at (cmp k) j ≡ true → is_at (cmp k) x ≡ is_at (cmp j) x
  same_as k j x same = (eq_by_cmp_equiv o).congr k j x same

  pub same_itself : (k : K) → is_at (cmp k) k ≡ true
  same_itself k = (eq_by_cmp_equiv o).refl k

  -- the same key finds the same
  pub lookup_same : (k j : K) (es : List (K × Entry)) → is_at (cmp k) j ≡ true → lookup (is_at (cmp k)) es ≡ lookup (is_at (cmp j)) es
  lookup_same k j [] same = refl
  lookup_same k j (e ∷ es) same = rw (same_as k j e.0 same, lookup_same k j es same) refl

  keys_above : (x : K) (es : List (K × Entry)) → AllByRecursion (λ d. cmp x d.0 ≡ Less) es → AllByRecursion (λ y. cmp x y ≡ Less) (keys_of es)
  keys_above x [] all = tt
  keys_above x (e ∷ es) all = (all.0, keys_above x es all.1)

  keys_sorted : (es : List (K × Entry)) → IsOrdered cmp es → IsStrictlySortedBy cmp (keys_of es)
  unfolding IsStrictlySortedBy
  keys_sorted [] ordered = tt
  keys_sorted (e ∷ es) ordered = (keys_above e.0 es ordered.0, keys_sorted es ordered.1)

  keys_distinct : (es : List (K × Entry)) → IsOrdered cmp es → IsDistinct (eq_by_cmp cmp) (keys_of es)
  keys_distinct es ordered = IsDistinct-from_sorted cmp (keys_of es) (keys_sorted es ordered)

  module _ (k j : K) (es : List (K × Entry)) where
    pub removed_at : IsOrdered cmp es → lookup (is_at (cmp j)) (remove_entry (is_at (cmp k)) es) ≡ cond (is_at (cmp k) j) None (lookup (is_at (cmp j)) es)
    removed_at ordered = lookup-remove_entry (eq_by_cmp_equiv o) (is_at (cmp k)) (λ x y same. same_as k x y same) j es (keys_distinct es ordered)

    pub written_at : (w : Entry) → IsSome (lookup (is_at (cmp k)) es) → lookup (is_at (cmp j)) (set_value (is_at (cmp k)) es w) ≡ cond (is_at (cmp k) j) (Some w) (lookup (is_at (cmp j)) es)
    written_at w held = lookup-set_value (eq_by_cmp_equiv o) (is_at (cmp k)) (λ x y same. same_as k x y same) j w es held

  module _ (k j : K) (v : Entry) where
    inserted_by : (e : K × Entry) (es : List (K × Entry)) (r : Ordering) → cmp k e.0 ≡ r → lookup (is_at (cmp j)) (insert_entry cmp es k v) ≡ cond (is_at (cmp k) j) (Some v) (lookup (is_at (cmp j)) es)
        → lookup (is_at (cmp j)) (insert_entry cmp (e ∷ es) k v) ≡ cond (is_at (cmp k) j) (Some v) (lookup (is_at (cmp j)) (e ∷ es))
    inserted_by e es r is rest = grind (arith, same_turned, same_as)

    pub inserted_at : (es : List (K × Entry)) → lookup (is_at (cmp j)) (insert_entry cmp es k v) ≡ cond (is_at (cmp k) j) (Some v) (lookup (is_at (cmp j)) es)
    inserted_at [] = rw (same_turned k j) refl
    inserted_at (e ∷ es) = inserted_by e es _ refl (inserted_at es)

  -- the keys still rise
  pub all_removed : (P : K → Type 0) (test : K → Bool) (es : List (K × Entry)) → AllByRecursion (λ d. P d.0) es → AllByRecursion (λ d. P d.0) (remove_entry test es)
  all_removed P test [] all = tt
  all_removed P test (e ∷ es) all = grind (arith, all_removed P test es all.1)

  pub ordered_removed : (test : K → Bool) (es : List (K × Entry)) → IsOrdered cmp es → IsOrdered cmp (remove_entry test es)
  ordered_removed test [] ordered = tt
  ordered_removed test (e ∷ es) ordered = by (test e.0) refl (ordered_removed test es ordered.1)
    where
      by : (b : Bool) → test e.0 ≡ b → IsOrdered cmp (remove_entry test es) → IsOrdered cmp (remove_entry test (e ∷ es))
      by true eb rest = rw eb ordered.1
      by false eb rest = rw eb (all_removed (λ x. cmp e.0 x ≡ Less) test es ordered.0, rest)

  pub all_written : (P : K → Type 0) (test : K → Bool) (w : Entry) (es : List (K × Entry)) → AllByRecursion (λ d. P d.0) es → AllByRecursion (λ d. P d.0) (set_value test es w)
  all_written P test w [] all = tt
  all_written P test w (e ∷ es) all = grind (arith, all_written P test w es all.1)

  pub ordered_written : (test : K → Bool) (w : Entry) (es : List (K × Entry)) → IsOrdered cmp es → IsOrdered cmp (set_value test es w)
  ordered_written test w [] ordered = tt
  ordered_written test w (e ∷ es) ordered = by (test e.0) refl (ordered_written test w es ordered.1)
    where
      by : (b : Bool) → test e.0 ≡ b → IsOrdered cmp (set_value test es w) → IsOrdered cmp (set_value test (e ∷ es) w)
      by true eb rest = rw eb (ordered.0, ordered.1)
      by false eb rest = rw eb (all_written (λ x. cmp e.0 x ≡ Less) test w es ordered.0, rest)

  above_all : (k x : K) (es : List (K × Entry)) → cmp k x ≡ Less → AllByRecursion (λ d. cmp x d.0 ≡ Less) es → AllByRecursion (λ d. cmp k d.0 ≡ Less) es
  above_all k x [] less all = tt
  above_all k x (e ∷ es) less all = (o.trans k x e.0 less all.0, above_all k x es less all.1)

  pub all_inserted : (P : K → Type 0) (k : K) (v : Entry) (es : List (K × Entry)) → AllByRecursion (λ d. P d.0) es → P k → AllByRecursion (λ d. P d.0) (insert_entry cmp es k v)
  all_inserted P k v [] all holds = (holds, tt)
  all_inserted P k v (e ∷ es) all holds = grind (arith, all_inserted P k v es all.1 holds)

  pub ordered_inserted : (k : K) (v : Entry) (es : List (K × Entry)) → IsOrdered cmp es → IsOrdered cmp (insert_entry cmp es k v)
  ordered_inserted k v [] ordered = (tt, tt)
  ordered_inserted k v (e ∷ es) ordered = by (cmp k e.0) refl (ordered_inserted k v es ordered.1)
    where
      by : (r : Ordering) → cmp k e.0 ≡ r → IsOrdered cmp (insert_entry cmp es k v) → IsOrdered cmp (insert_entry cmp (e ∷ es) k v)
      by Less is rest = rw is ((is, above_all k e.0 es is ordered.0), (ordered.0, ordered.1))
      by Equal is rest = rw is (ordered.0, ordered.1)
      by Greater is rest =
          let less : cmp e.0 k ≡ Less = o.antisymm e.0 k ∙ ap ordering_reverse is in
          rw is (all_inserted (λ x. cmp e.0 x ≡ Less) k v es ordered.0 less, rest)

  all_filtered : (P : K → Type 0) (p : K × Entry → Bool) (es : List (K × Entry)) → AllByRecursion (λ d. P d.0) es → AllByRecursion (λ d. P d.0) (filter p es)
  all_filtered P p [] all = tt
  all_filtered P p (e ∷ es) all = grind (arith, all_filtered P p es all.1)

  pub ordered_filtered : (p : K × Entry → Bool) (es : List (K × Entry)) → IsOrdered cmp es → IsOrdered cmp (filter p es)
  ordered_filtered p [] ordered = tt
  ordered_filtered p (e ∷ es) ordered = by (p e) refl (ordered_filtered p es ordered.1)
    where
      by : (b : Bool) → p e ≡ b → IsOrdered cmp (filter p es) → IsOrdered cmp (filter p (e ∷ es))
      by true eb rest = rw eb (all_filtered (λ x. cmp e.0 x ≡ Less) p es ordered.0, rest)
      by false eb rest = rw eb rest

  -- none of the entries after a key's own has the key
  none_above : (k x : K) (es : List (K × Entry)) → is_at (cmp k) x ≡ true → AllByRecursion (λ d. cmp x d.0 ≡ Less) es → lookup (is_at (cmp k)) es ≡ None
  none_above k x [] same all = refl
  none_above k x (e ∷ es) same all = grind (arith, none_above k x es same all.1, same_as)

  -- an entry that has expired is gone, and every other is there
  pub unexpired_at : (m : ℕ) (k : K) (es : List (K × Entry)) → IsOrdered cmp es → lookup (is_at (cmp k)) (filter (λ e. not (has_expired m e)) es) ≡ left_at (lookup (is_at (cmp k)) es) m
  unexpired_at m k [] ordered = refl
  unexpired_at m k (e ∷ es) ordered = grind (arith, unexpired_at m k es ordered.1, none_above, all_filtered)
