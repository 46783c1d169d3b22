-- What was told last of a row is its state.
use Rattle.std.proofs.Common.{◌≡◌, ℕ, ◌+◌, Bool, true, false, List, [], ◌∷◌, ◌++◌, refl, sym, ap, subst, ◌∙◌}
use Rattle.std.specs.Prelude.{◌&&◌, not, Option, Some, None, if◌then◌else◌}
use Rattle.std.specs.List.{AllByRecursion}
use Rattle.std.proofs.lemmas.Bool.{eq-eqb, eqb-false, ne_eqb}
use Rattle.readings.specs.declared.rows.Row.{Row}
use Rattle.readings.specs.Rows.{row_number, rows as all_rows}
use Rattle.gate_events.specs.Emit.{Emit}
use Rattle.history.specs.Entries.{Entry, History}
use Rattle.history.specs.Settings.{Settings, same_row}
use Rattle.settings.specs.declared.watch.AlertConfig.{AlertConfig}
use Rattle.row_watch.proofs.Steps.{never_overdue}
use Rattle.row_watch.specs.WatchOut.{Change, alert_of, change, changes, changes_before, is_silent, report_of, told}
use Rattle.row_watch.specs.WatchRule.{WatchRule, Watched, limit_of, watch_rule, watched_if, watched_of}
use Rattle.row_watch.specs.WatchLaws.{AreApart, IsTold, RowsAreApart, ToldIsTheState, last_in, later, said_in, told_last}

-- ---- the changes that are told

-- by the last of these changes that is of the row
abbrev last_change : Row → List Change → Option Bool → Option Bool
last_change row [] before = before
last_change row (x ∷ xs) before = last_change row xs (if same_row x.row row then Some x.said else before)

later_same : (b : Bool) (said : Bool) (before : Option Bool) → later (if b then Some said else None) before ≡ (if b then Some said else before)
later_same true said before = refl
later_same false said before = refl

-- an alert is no report
behind_alert : (row : Row) (sfi : List ℕ) (alerts : Option AlertConfig) (n : ℕ) (x : Change) (es : List Emit) (before : Option Bool)
    → last_in row (alert_of sfi alerts n x ++ es) before ≡ last_in row es before
behind_alert row sfi None n x es before = refl
behind_alert row sfi (Some a) n x es before = refl

by_changes : (row : Row) (sfi : List ℕ) (alerts : Option AlertConfig) (n : ℕ) (xs : List Change) (before : Option Bool)
    → last_in row (told sfi alerts n xs) before ≡ last_change row xs before
by_changes row sfi alerts n [] before = refl
by_changes row sfi alerts n (x ∷ xs) before =
    behind_alert row sfi alerts n x (told sfi alerts (n + 1) xs) (later (said_in row (report_of x)) before)
    ∙ ap (last_in row (told sfi alerts (n + 1) xs)) (later_same (same_row x.row row) x.said before)
    ∙ by_changes row sfi alerts (n + 1) xs (if same_row x.row row then Some x.said else before)

last_append : (row : Row) (xs ys : List Change) (before : Option Bool) → last_change row (xs ++ ys) before ≡ last_change row ys (last_change row xs before)
last_append row [] ys before = refl
last_append row (x ∷ xs) ys before = last_append row xs ys (if same_row x.row row then Some x.said else before)

-- ---- a row among others

-- what changes of another row says nothing of it
of_other : (row other : Row) (silent now : Bool) (before : Option Bool) → same_row other row ≡ false → last_change row (change other silent now) before ≡ before
of_other row other false true before apart = ap (λ b. if b then Some false else before) apart
of_other row other true false before apart = ap (λ b. if b then Some true else before) apart
of_other row other false false before apart = refl
of_other row other true true before apart = refl

of_itself : (row : Row) → same_row row row ≡ true
of_itself row = eq-eqb (row_number row) (row_number row) refl

of_row : (row : Row) (silent now : Bool) (before : Option Bool) → IsTold before silent → IsTold (last_change row (change row silent now) before) now
of_row row false true before is = subst (λ b. IsTold (if b then Some false else before) true) (sym (of_itself row)) refl
of_row row true false before is = subst (λ b. IsTold (if b then Some true else before) false) (sym (of_itself row)) refl
of_row row false false before is = is
of_row row true true before is = is

module _ (c : Settings) (s : ℕ) (h : History) (e : Entry) where
  of_others : (row : Row) (ws : List Watched) (before : Option Bool) → AllByRecursion (λ v. same_row v.row row ≡ false) ws → last_change row (changes c s ws h e) before ≡ before
  of_others row [] before apart = refl
  of_others row (w ∷ ws) before apart =
      last_append row (change w.row (is_silent c s w h) (is_silent c s w (e ∷ h))) (changes c s ws h e) before
      ∙ ap (last_change row (changes c s ws h e)) (of_other row w.row (is_silent c s w h) (is_silent c s w (e ∷ h)) before apart.0)
      ∙ of_others row ws before apart.1

-- each row in its order
module _ (c : Settings) (s : ℕ) (h : History) (e : Entry) (before : Row → Option Bool) where
  abbrev TellsOf : List Change → Watched → Type 0
  TellsOf xs w = IsTold (last_change w.row xs (before w.row)) (is_silent c s w (e ∷ h))

  behind_change : (w : Watched) (silent now : Bool) (xs : List Change) (vs : List Watched) → AllByRecursion (λ v. same_row v.row w.row ≡ false) vs
      → AllByRecursion (TellsOf xs) vs → AllByRecursion (TellsOf (change w.row silent now ++ xs)) vs
  behind_change w silent now xs [] apart tell = tt
  behind_change w silent now xs (v ∷ vs) apart tell =
      let other : same_row w.row v.row ≡ false = ne_eqb (row_number w.row) (row_number v.row) (λ is. eqb-false (row_number v.row) (row_number w.row) apart.0 (sym is)) in
      let same = last_append v.row (change w.row silent now) xs (before v.row) ∙ ap (last_change v.row xs) (of_other v.row w.row silent now (before v.row) other) in
      (subst (λ told. IsTold told (is_silent c s v (e ∷ h))) (sym same) tell.0, behind_change w silent now xs vs apart.1 tell.1)

  each_told : (ws : List Watched) → AreApart ws → AllByRecursion (λ w. IsTold (before w.row) (is_silent c s w h)) ws → AllByRecursion (TellsOf (changes c s ws h e)) ws
  each_told [] apart are = tt
  each_told (w ∷ ws) apart are =
      let silent = is_silent c s w h in
      let now = is_silent c s w (e ∷ h) in
      let same =
      last_append w.row (change w.row silent now) (changes c s ws h e) (before w.row)
      ∙ of_others c s h e w.row ws (last_change w.row (change w.row silent now) (before w.row)) apart.0 in (
        subst (λ told. IsTold told now) (sym same) (of_row w.row silent now (before w.row) are.0),
        behind_change w silent now (changes c s ws h e) ws apart.0 (each_told ws apart.1 are.1),
      )

-- ---- over the history

never_told : (c : Settings) (s : ℕ) (ws : List Watched) → AllByRecursion (λ w. IsTold None (is_silent c s w [])) ws
never_told c s [] = tt
never_told c s (w ∷ ws) = (never_overdue w.limit s, never_told c s ws)

module _ (r : WatchRule) (c : Settings) (s : ℕ) where
  told_so : (h : History) (e : Entry) (ws : List Watched) → AllByRecursion (TellsOf c s h e (λ row. told_last c s r row h) (changes c s r.rows h e)) ws
      → AllByRecursion (λ w. IsTold (told_last c s r w.row (e ∷ h)) (is_silent c s w (e ∷ h))) ws
  told_so h e [] tell = tt
  told_so h e (w ∷ ws) tell = (
    subst (λ told. IsTold told (is_silent c s w (e ∷ h)))
        (sym (by_changes w.row r.sfi r.alerts (changes_before c s r h) (changes c s r.rows h e) (told_last c s r w.row h))) tell.0,
    told_so h e ws tell.1,
  )

pub told_is_the_state : ToldIsTheState
told_is_the_state r c s [] apart = never_told c s r.rows
told_is_the_state r c s (e ∷ h) apart =
    told_so r c s h e r.rows (each_told c s h e (λ row. told_last c s r row h) r.rows apart (told_is_the_state r c s h apart))

-- ---- rows that are configured are apart

-- all of these are other rows than this one
abbrev are_others : Row → List Row → Bool
are_others row [] = true
are_others row (other ∷ rows) = not (same_row other row) && are_others row rows

abbrev are_apart : List Row → Bool
are_apart [] = true
are_apart (row ∷ rows) = are_others row rows && are_apart rows

all_apart : are_apart all_rows ≡ true
unfolding all_rows
all_apart = refl

not_true : (b : Bool) → not b ≡ true → b ≡ false
not_true true is = absurd cc
not_true false is = refl

first_true : (a b : Bool) → (a && b) ≡ true → a ≡ true
first_true true b is = refl
first_true false b is = absurd cc

second_true : (a b : Bool) → (a && b) ≡ true → b ≡ true
second_true true b is = is
second_true false b is = absurd cc

others_if : (row other : Row) (limit : Option ℕ) (watched : List Watched) → same_row other row ≡ false → AllByRecursion (λ v. same_row v.row row ≡ false) watched
    → AllByRecursion (λ v. same_row v.row row ≡ false) (watched_if other limit watched)
others_if row other None watched apart are = are
others_if row other (Some limit) watched apart are = (apart, are)

others_watched : (limits : List (Option ℕ)) (row : Row) (rows : List Row) → are_others row rows ≡ true → AllByRecursion (λ v. same_row v.row row ≡ false) (watched_of limits rows)
others_watched limits row [] is = tt
others_watched limits row (other ∷ rows) is =
    others_if row other (limit_of limits other) (watched_of limits rows)
    (not_true (same_row other row) (first_true (not (same_row other row)) (are_others row rows) is))
    (others_watched limits row rows (second_true (not (same_row other row)) (are_others row rows) is))

apart_if : (row : Row) (limit : Option ℕ) (watched : List Watched) → AllByRecursion (λ v. same_row v.row row ≡ false) watched → AreApart watched → AreApart (watched_if row limit watched)
apart_if row None watched others apart = apart
apart_if row (Some limit) watched others apart = (others, apart)

watched_apart : (limits : List (Option ℕ)) (rows : List Row) → are_apart rows ≡ true → AreApart (watched_of limits rows)
watched_apart limits [] is = tt
watched_apart limits (row ∷ rows) is =
    apart_if row (limit_of limits row) (watched_of limits rows)
    (others_watched limits row rows (first_true (are_others row rows) (are_apart rows) is))
    (watched_apart limits rows (second_true (are_others row rows) (are_apart rows) is))

pub rows_are_apart : RowsAreApart
unfolding watch_rule
rows_are_apart config sfi = watched_apart config.limits all_rows all_apart
