-- A tick at which nothing is told of rows under watch changes nothing that is told of them later.
use Rattle.std.proofs.Common.{◌≡◌, ℕ, ◌+◌, ◌-◌, ◌*◌, Bool, true, false, List, [], ◌∷◌, ◌++◌, length, refl, sym, ap, ◌∙◌, arith}
use Rattle.std.specs.Prelude.{Option, Some, None, option_map}
use Rattle.std.specs.List.{AllByRecursion}
use Rattle.std.proofs.lemmas.Bool.{le-ltb}
use Rattle.std.proofs.Math.Nat.{add-zero}
use Rattle.readings.specs.declared.rows.Row.{Row}
use Rattle.history.specs.Entries.{Entry, History, moment_of, tick}
use Rattle.history.specs.Settings.{Settings}
use Rattle.gate_core.specs.Selected.{Selected, selected_at}
use Rattle.row_watch.specs.WatchOut.{Change, change, changes, changes_before, is_overdue, is_silent, last_said, said_with, told, watch_out}
use Rattle.row_watch.specs.WatchRule.{WatchRule, Watched}
use Rattle.recordings.proofs.Places.{closed}
use Rattle.recordings.proofs.Lasting.{selected_as, selected_without}
use Rattle.settings.specs.declared.watch.AlertConfig.{AlertConfig}

-- ---- where nothing is told nothing has changed

no_change : (row : Row) (before now : Bool) → change row before now ≡ [] → before ≡ now
no_change row false false none = refl
no_change row true true none = refl
no_change row false true none = absurd cc
no_change row true false none = absurd cc

none_told : (sfi : List ℕ) (alerts : Option AlertConfig) (n : ℕ) (xs : List Change) → told sfi alerts n xs ≡ [] → xs ≡ []
none_told sfi alerts n [] none = refl
none_told sfi alerts n (x ∷ xs) none = absurd cc

first_none : (xs ys : List Change) → xs ++ ys ≡ [] → xs ≡ []
first_none [] ys none = refl
first_none (x ∷ xs) ys none = absurd cc

second_none : (xs ys : List Change) → xs ++ ys ≡ [] → ys ≡ []
second_none [] ys none = none
second_none (x ∷ xs) ys none = absurd cc

-- ---- without the tick

said_as : (f : ℕ → ℕ) (row : Row) (x : Option Selected) (before : ℕ) → said_with row (option_map (selected_as f) x) before ≡ said_with row x before
said_as f row None before = refl
said_as f row (Some x) before = refl

module _ (c : Settings) (s m : ℕ) (h : History) where
  pub last_without : (row : Row) (newer : History) → last_said c s row (newer ++ h) ≡ last_said c s row (newer ++ tick m ∷ h)
  last_without row [] = refl
  last_without row (e ∷ newer) =
      ap (λ (x : Option Selected). said_with row x (last_said c s row (newer ++ h))) (selected_without c s m h newer e)
      ∙ said_as (closed (length h)) row (selected_at c s (newer ++ tick m ∷ h) e) (last_said c s row (newer ++ h))
      ∙ ap (said_with row (selected_at c s (newer ++ tick m ∷ h) e)) (last_without row newer)

  abbrev Stays : Watched → Type 0
  Stays w = is_silent c s w h ≡ is_silent c s w (tick m ∷ h)

  all_stay : (ws : List Watched) → changes c s ws h (tick m) ≡ [] → AllByRecursion Stays ws
  all_stay [] none = tt
  all_stay (w ∷ ws) none =
      let first = change w.row (is_silent c s w h) (is_silent c s w (tick m ∷ h)) in
      let others = changes c s ws h (tick m) in
      (no_change w.row (is_silent c s w h) (is_silent c s w (tick m ∷ h)) (first_none first others none), all_stay ws (second_none first others none))

  silent_without : (w : Watched) (newer : History) → Stays w → is_silent c s w (newer ++ h) ≡ is_silent c s w (newer ++ tick m ∷ h)
  silent_without w [] stays = stays
  silent_without w (e ∷ newer) stays = ap (λ (last : ℕ). is_overdue w.limit last (moment_of e)) (last_without w.row (e ∷ newer))

  changes_without : (ws : List Watched) (newer : History) (e : Entry) → AllByRecursion Stays ws → changes c s ws (newer ++ h) e ≡ changes c s ws (newer ++ tick m ∷ h) e
  changes_without [] newer e stay = refl
  changes_without (w ∷ ws) newer e stay =
      ap (λ (before : Bool). change w.row before (is_silent c s w (e ∷ newer ++ h)) ++ changes c s ws (newer ++ h) e) (silent_without w newer stay.0)
      ∙ ap (λ (now : Bool). change w.row (is_silent c s w (newer ++ tick m ∷ h)) now ++ changes c s ws (newer ++ h) e) (silent_without w (e ∷ newer) stay.0)
      ∙ ap (λ (xs : List Change). change w.row (is_silent c s w (newer ++ tick m ∷ h)) (is_silent c s w (e ∷ newer ++ tick m ∷ h)) ++ xs) (changes_without ws newer e stay.1)

  module _ (r : WatchRule) (none : watch_out c s r h (tick m) ≡ []) where
    unchanged : changes c s r.rows h (tick m) ≡ []
    unchanged = none_told r.sfi r.alerts (changes_before c s r h) (changes c s r.rows h (tick m)) none

    stay : AllByRecursion Stays r.rows
    stay = all_stay r.rows unchanged

    before_without : (newer : History) → changes_before c s r (newer ++ h) ≡ changes_before c s r (newer ++ tick m ∷ h)
    before_without [] = sym (ap (λ (xs : List Change). changes_before c s r h + length xs) unchanged ∙ add-zero (changes_before c s r h))
    before_without (e ∷ newer) =
        ap (λ (before : ℕ). before + length (changes c s r.rows (newer ++ h) e)) (before_without newer)
        ∙ ap (λ (xs : List Change). changes_before c s r (newer ++ tick m ∷ h) + length xs) (changes_without r.rows newer e stay)

    pub watch_without : (newer : History) (e : Entry) → watch_out c s r (newer ++ h) e ≡ watch_out c s r (newer ++ tick m ∷ h) e
    watch_without newer e =
        ap (λ (before : ℕ). told r.sfi r.alerts before (changes c s r.rows (newer ++ h) e)) (before_without newer)
        ∙ ap (told r.sfi r.alerts (changes_before c s r (newer ++ tick m ∷ h))) (changes_without r.rows newer e stay)

-- ---- at the moment of the start no row is silent

none_first : (c : Settings) (s : ℕ) (ws : List Watched) → changes c s ws [] (tick s) ≡ []
none_first c s [] = refl
none_first c s (w ∷ ws) =
    ap (λ (before : Bool). change w.row before (is_silent c s w (tick s ∷ [])) ++ changes c s ws [] (tick s)) (le-ltb (1000 * w.limit) (0 - s) (omega arith))
    ∙ ap (λ (now : Bool). change w.row false now ++ changes c s ws [] (tick s)) (le-ltb (1000 * w.limit) (s - s) (omega arith))
    ∙ none_first c s ws

pub watch_first : (r : WatchRule) (c : Settings) (s : ℕ) → watch_out c s r [] (tick s) ≡ []
watch_first r c s = ap (told r.sfi r.alerts 0) (none_first c s r.rows)
