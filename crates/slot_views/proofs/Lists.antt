-- What holds of each element, after an edit.
use Rattle.std.proofs.Common.{◌≡◌, ℕ, zero, suc, ◌+◌, ◌-◌, ◌*◌, ◌<◌, ◌≤◌, List, [], ◌∷◌, ◌++◌, length, get_or, set, take, ◌∙◌, subst, arith}
use Rattle.std.proofs.lemmas.List.{get_or_default}
use Rattle.std.specs.List.{AllByRecursion, insert, remove}

module _ {X : Type 0} (P : X → Type 0) where
  pub all_append : (xs ys : List X) → AllByRecursion P xs → AllByRecursion P ys → AllByRecursion P (xs ++ ys)
  all_append [] ys all more = more
  all_append (x ∷ xs) ys all more = (all.0, all_append xs ys all.1 more)

  pub all_front : (xs ys : List X) → AllByRecursion P (xs ++ ys) → AllByRecursion P xs
  all_front [] ys all = tt
  all_front (x ∷ xs) ys all = (all.0, all_front xs ys all.1)

  pub all_back : (xs ys : List X) → AllByRecursion P (xs ++ ys) → AllByRecursion P ys
  all_back [] ys all = all
  all_back (x ∷ xs) ys all = all_back xs ys all.1

  pub all_get : (xs : List X) (i : ℕ) (d : X) → AllByRecursion P xs → i < length xs → P (get_or xs i d)
  all_get [] i d all in_range = absurd (omega arith)
  all_get (x ∷ xs) zero d all in_range = all.0
  all_get (x ∷ xs) (suc i) d all in_range = all_get xs i d all.1 (omega arith)

  -- what holds of an element that was read at its place
  pub holds_read : (xs : List X) (i : ℕ) (x d : X) → i < length xs → x ≡ get_or xs i x → P x → P (get_or xs i d)
  holds_read xs i x d in_range read holds = subst P (read ∙ get_or_default xs i x d in_range) holds

  pub all_remove : (xs : List X) (i : ℕ) → AllByRecursion P xs → AllByRecursion P (remove xs i)
  all_remove [] zero all = tt
  all_remove [] (suc i) all = tt
  all_remove (x ∷ xs) zero all = all.1
  all_remove (x ∷ xs) (suc i) all = (all.0, all_remove xs i all.1)

  pub all_insert : (xs : List X) (i : ℕ) (x : X) → AllByRecursion P xs → P x → AllByRecursion P (insert xs i x)
  all_insert xs zero x all holds = (holds, all)
  all_insert [] (suc i) x all holds = (holds, tt)
  all_insert (y ∷ xs) (suc i) x all holds = (all.0, all_insert xs i x all.1 holds)

  pub all_set : (xs : List X) (i : ℕ) (x : X) → AllByRecursion P xs → P x → AllByRecursion P (set xs i x)
  all_set [] i x all holds = tt
  all_set (y ∷ xs) zero x all holds = (holds, all.1)
  all_set (y ∷ xs) (suc i) x all holds = (all.0, all_set xs i x all.1 holds)

  -- one more of those before a place
  pub all_take_more : (xs : List X) (i : ℕ) (d : X) → i < length xs → AllByRecursion P (take i xs) → P (get_or xs i d) → AllByRecursion P (take (suc i) xs)
  all_take_more [] i d in_range before here = absurd (omega arith)
  all_take_more (x ∷ xs) zero d in_range before here = (here, tt)
  all_take_more (x ∷ xs) (suc i) d in_range before here = (before.0, all_take_more xs i d (omega arith) before.1 here)

module _ {X : Type 0} (P Q : X → Type 0) (step : (x : X) → P x → Q x) where
  pub all_map : (xs : List X) → AllByRecursion P xs → AllByRecursion Q xs
  all_map [] all = tt
  all_map (x ∷ xs) all = (step x all.0, all_map xs all.1)

-- the room that is left after one more piece
pub room_left : (len more next need piece cap : ℕ) → next + 1 < need → more ≤ piece → len + (need - next) * piece ≤ cap → (len + more) + (need - (next + 1)) * piece ≤ cap
room_left len more next need piece cap awaits fits room = grind arith
