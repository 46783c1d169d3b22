-- What is told of the entries of a map is told of their keys.
use Rattle.std.proofs.Common.{◌≡◌, Bool, true, false, List, [], ◌∷◌, map, refl, ap, ◌∙◌}
use Rattle.std.specs.Prelude.{Some, filter, if◌then◌else◌}
use Rattle.std.specs.List.{AllByRecursion, flat_map}
use Rattle.std.specs.Cmp.{IsTotalOrder}
use Rattle.std.specs.Ordering.{ordering_reverse}
use Rattle.std.specs.Map.{lookup}
use Rattle.std.specs.BTreeMap.{is_at}
use Rattle.std.specs.declared.cmp.Ordering.{Ordering}
use Rattle.std.specs.declared.cmp.Ordering.TheVariants.{Less}
use Rattle.slot_views.specs.Slots.{Entry, SlotMap, IsOrdered, IsMap, entry_at}
use Rattle.slot_views.proofs.Tied.{same_itself}
use Rattle.gate_events.specs.Emit.{Emit}
use Rattle.history.specs.ListLaws.{keys_that}

module _ {K : Type 0} {cmp : K → K → Ordering} (o : IsTotalOrder cmp) where
  -- each entry is found at its key
  skipped : (e : K × Entry) (es ds : List (K × Entry)) → AllByRecursion (λ d. cmp e.0 d.0 ≡ Less) ds → AllByRecursion (λ d. lookup (is_at (cmp d.0)) es ≡ Some d.1) ds
      → AllByRecursion (λ d. lookup (is_at (cmp d.0)) (e ∷ es) ≡ Some d.1) ds
  skipped e es [] less all = tt
  skipped e es (d ∷ ds) less all =
      let turned : cmp d.0 e.0 ≡ ordering_reverse Less = o.antisymm d.0 e.0 ∙ ap ordering_reverse less.0 in
      (rw turned all.0, skipped e es ds less.1 all.1)

  found : (es : List (K × Entry)) → IsOrdered cmp es → AllByRecursion (λ e. lookup (is_at (cmp e.0)) es ≡ Some e.1) es
  found [] ordered = tt
  found (e ∷ es) ordered = (rw (same_itself o e.0) refl, skipped e es es ordered.0 (found es ordered.1))

  -- what is told of the entries that pass a test is told of their keys
  told_all : (s : SlotMap K) (g : K × Entry → List Emit) (f : K → List Emit) → ((key : K) (e : Entry) → entry_at cmp s key ≡ Some e → g (key, e) ≡ f key)
      → (q : K × Entry → Bool) (es : List (K × Entry)) → AllByRecursion (λ e. lookup (is_at (cmp e.0)) s.entries ≡ Some e.1) es
      → flat_map g (filter q es) ≡ flat_map f (map (λ e. e.0) (filter q es))
  told_all s g f same q [] all = refl
  told_all s g f same q (e ∷ es) all = by (q e) (told_all s g f same q es all.1)
    where
      by : (b : Bool) → flat_map g (filter q es) ≡ flat_map f (map (λ e. e.0) (filter q es))
          → flat_map g (if b then e ∷ filter q es else filter q es) ≡ flat_map f (map (λ e. e.0) (if b then e ∷ filter q es else filter q es))
      by true rest = rw (same e.0 e.1 all.0, rest) refl
      by false rest = rest

  pub told : (s : SlotMap K) → IsMap cmp s → (g : K × Entry → List Emit) (f : K → List Emit) → ((key : K) (e : Entry) → entry_at cmp s key ≡ Some e → g (key, e) ≡ f key)
      → (q : K × Entry → Bool) → flat_map g (filter q s.entries) ≡ flat_map f (keys_that q s)
  told s map g f same q = told_all s g f same q s.entries (found s.entries map.ordered)
