-- One row after the other takes an event: what is told behind each is what is told of all behind the last.
use Rattle.std.proofs.Common.{◌≡◌, ℕ, ◌+◌, ◌*◌, ◌<◌, ◌≤◌, Bool, true, false, List, [], ◌∷◌, ◌++◌, length, length-append, take, drop, get_or, set, map, append_assoc, refl, sym, ap, ◌∙◌, arith}
use Rattle.std.specs.Prelude.{Option, Some, None}
use Rattle.std.proofs.lemmas.List.{append-nil, at_drop_more, drop_all, get_or_at, length-map, length-take-le, map-append, set_at, take_all, take_more}
use Rattle.readings.specs.declared.rows.Row.{Row}
use Rattle.readings.specs.declared.rows.Row.TheVariants as row
use Rattle.gate_events.specs.Emit.{Emit}
use Rattle.parts.specs.SelectedMessage.{SelectedMessage}
use Rattle.settings.specs.declared.watch.AlertConfig.{AlertConfig}
use Rattle.row_watch.specs.WatchKept.{Watch, changed_at, counted, next_count, opened_row, row_after, row_in, row_taken, row_tells, rows_after, rows_change, told_from, watch_after, watch_tells}
use Rattle.row_watch.specs.WatchOut.{Change, alert_of, change, report_of}
use Rattle.row_watch.specs.declared.watched_row.WatchedRow.{WatchedRow}

-- ---- what is told of changes, and behind them

told_append : (k : Watch) (count : ℕ) (xs ys : List Change) → told_from k count (xs ++ ys) ≡ told_from k count xs ++ told_from k (counted count xs) ys
told_append k count [] ys = refl
told_append k count (x ∷ xs) ys =
    ap (λ (es : List Emit). report_of x ∷ (alert_of k.sfi k.alerts count x ++ es)) (told_append k (next_count count) xs ys)
    ∙ ap (λ (es : List Emit). report_of x ∷ es)
    (sym (append_assoc (alert_of k.sfi k.alerts count x) (told_from k (next_count count) xs) (told_from k (counted (next_count count) xs) ys)))

counted_append : (count : ℕ) (xs ys : List Change) → counted count (xs ++ ys) ≡ counted (counted count xs) ys
counted_append count [] ys = refl
counted_append count (x ∷ xs) ys = counted_append (next_count count) xs ys

alert_few : (sfi : List ℕ) (alerts : Option AlertConfig) (count : ℕ) (x : Change) → length (alert_of sfi alerts count x) ≤ 1
alert_few sfi None count x = omega arith
alert_few sfi (Some a) count x = omega arith

-- of one row at most a report and an alert
told_few : (k : Watch) (count : ℕ) (row : Row) (silent now : Bool) → length (told_from k count (change row silent now)) ≤ 2
told_few k count row false true =
    let x : Change = record { row = row; said = false } in
    omega (arith, alert_few k.sfi k.alerts count x, ap length (append-nil (alert_of k.sfi k.alerts count x)))
told_few k count row true false =
    let x : Change = record { row = row; said = true } in
    omega (arith, alert_few k.sfi k.alerts count x, ap length (append-nil (alert_of k.sfi k.alerts count x)))
told_few k count row false false = omega arith
told_few k count row true true = omega arith

-- how alerts are said and by whom decides what is told
same_told : (k j : Watch) (count : ℕ) (xs : List Change) → k.sfi ≡ j.sfi → k.alerts ≡ j.alerts → told_from k count xs ≡ told_from j count xs
same_told k j count [] sfi alerts = refl
same_told k j count (x ∷ xs) sfi alerts =
    ap (λ (es : List Emit). report_of x ∷ (es ++ told_from k (next_count count) xs))
    (ap (λ (s : List ℕ). alert_of s k.alerts count x) sfi ∙ ap (λ (a : Option AlertConfig). alert_of j.sfi a count x) alerts)
    ∙ ap (λ (es : List Emit). report_of x ∷ (alert_of j.sfi j.alerts count x ++ es)) (same_told k j (next_count count) xs sfi alerts)

abbrev watch_of : List WatchedRow → Option AlertConfig → List ℕ → ℕ → Watch
watch_of rows alerts sfi count = record { rows = rows; alerts = alerts; sfi = sfi; count = count }

same_watch : (k j : Watch) → k.rows ≡ j.rows → k.alerts ≡ j.alerts → k.sfi ≡ j.sfi → k.count ≡ j.count → k ≡ j
same_watch k j rows alerts sfi count =
    ap (λ (x : List WatchedRow). watch_of x k.alerts k.sfi k.count) rows ∙ ap (λ (x : Option AlertConfig). watch_of j.rows x k.sfi k.count) alerts
    ∙ ap (λ (x : List ℕ). watch_of j.rows j.alerts x k.count) sfi ∙ ap (λ (x : ℕ). watch_of j.rows j.alerts j.sfi x) count

-- ---- after so many rows

module _ (start m : ℕ) (new : Option SelectedMessage) where
  abbrev blank : WatchedRow
  blank = opened_row row.HeadingTrue 0

  abbrev left : Watch → ℕ → List Change
  left k at = rows_change start m new (drop at k.rows)

  pub record IsTakenTo (before : Watch) (at : ℕ) (after : Watch) (out : List Emit) : Type 0 where
    pub rows : after.rows ≡ rows_after start m new (take at before.rows) ++ drop at before.rows
    pub alerts : after.alerts ≡ before.alerts
    pub sfi : after.sfi ≡ before.sfi
    pub tells : out ++ told_from before after.count (left before at) ≡ watch_tells start m new before
    pub count : counted after.count (left before at) ≡ counted before.count (rows_change start m new before.rows)
    pub few : length out ≤ 2 * at

  pub none_taken : (k : Watch) → IsTakenTo k 0 k []
  none_taken k = record { rows = refl; alerts = refl; sfi = refl; tells = refl; count = refl; few = omega arith }

  module _ (before : Watch) (at : ℕ) (k : Watch) (out : List Emit) (is : IsTakenTo before at k out) (within : at < length before.rows) where
    abbrev w : WatchedRow
    w = get_or before.rows at blank

    abbrev passed : List WatchedRow
    passed = rows_after start m new (take at before.rows)

    passed_length : length passed ≡ at
    passed_length = length-map (take at before.rows) (row_after start m new) ∙ length-take-le at before.rows (omega (arith, within))

    abbrev rest : List WatchedRow
    rest = drop (at + 1) before.rows

    drop_is : drop at before.rows ≡ w ∷ rest
    drop_is = at_drop_more (λ (xs : List WatchedRow). xs) before.rows at blank within

    rows_are : k.rows ≡ passed ++ w ∷ rest
    rows_are = is.rows ∙ ap (λ (xs : List WatchedRow). passed ++ xs) drop_is

    row_is : row_in k at ≡ w
    row_is = ap (λ (rows : List WatchedRow). get_or rows at blank) rows_are ∙ get_or_at passed w rest blank at passed_length

    abbrev xs : List Change
    xs = change w.row w.silent (row_after start m new w).silent

    changed_is : changed_at start m new at k ≡ xs
    changed_is = ap (λ (v : WatchedRow). change v.row v.silent (row_after start m new v).silent) row_is

    next_rows : (row_taken start m new at k).rows ≡ rows_after start m new (take (at + 1) before.rows) ++ rest
    next_rows =
        let y = row_after start m new w in
        ap (λ (v : WatchedRow). set k.rows at (row_after start m new v)) row_is
        ∙ ap (λ (rows : List WatchedRow). set rows at y) rows_are
        ∙ set_at passed w rest y at passed_length
        ∙ sym (append_assoc passed (y ∷ []) rest)
        ∙ ap (λ (rows : List WatchedRow). rows ++ rest)
        (sym (ap (map (row_after start m new)) (take_more before.rows at blank within) ∙ map-append (row_after start m new) (take at before.rows) (w ∷ [])))

    left_is : left before at ≡ xs ++ left before (at + 1)
    left_is = ap (rows_change start m new) drop_is

    row_tells_is : row_tells start m new at k ≡ told_from before k.count xs
    row_tells_is = ap (told_from k k.count) changed_is ∙ same_told k before k.count xs is.sfi is.alerts

    next_tells : (out ++ row_tells start m new at k) ++ told_from before (counted k.count (changed_at start m new at k)) (left before (at + 1)) ≡ watch_tells start m new before
    next_tells =
        ap (λ (es : List Emit). (out ++ es) ++ told_from before (counted k.count (changed_at start m new at k)) (left before (at + 1))) row_tells_is
        ∙ ap (λ (ys : List Change). (out ++ told_from before k.count xs) ++ told_from before (counted k.count ys) (left before (at + 1))) changed_is
        ∙ append_assoc out (told_from before k.count xs) (told_from before (counted k.count xs) (left before (at + 1)))
        ∙ ap (λ (es : List Emit). out ++ es)
        (sym (told_append before k.count xs (left before (at + 1))) ∙ ap (told_from before k.count) (sym left_is))
        ∙ is.tells

    next_count_is : counted (counted k.count (changed_at start m new at k)) (left before (at + 1)) ≡ counted before.count (rows_change start m new before.rows)
    next_count_is =
        ap (λ (ys : List Change). counted (counted k.count ys) (left before (at + 1))) changed_is
        ∙ sym (counted_append k.count xs (left before (at + 1))) ∙ ap (counted k.count) (sym left_is) ∙ is.count

    pub one_more : IsTakenTo before (at + 1) (row_taken start m new at k) (out ++ row_tells start m new at k)
    one_more = record {
      rows = next_rows;
      alerts = is.alerts;
      sfi = is.sfi;
      tells = next_tells;
      count = next_count_is;
      few =
          omega (
            arith,
            is.few,
            length-append out (row_tells start m new at k),
            told_few k k.count (row_in k at).row (row_in k at).silent (row_after start m new (row_in k at)).silent,
          );
    }

  -- behind the last row
  pub all_taken : (before k : Watch) (at : ℕ) (out : List Emit) → at ≡ length before.rows → IsTakenTo before at k out
      → (k ≡ watch_after start m new before) × (out ≡ watch_tells start m new before)
  all_taken before k at out end is =
      let none : drop at before.rows ≡ [] = drop_all at before.rows (omega (arith, end)) in
      let no_change : left before at ≡ [] = ap (rows_change start m new) none in
      let all : take at before.rows ≡ before.rows = take_all at before.rows (omega (arith, end)) in (
        same_watch k (watch_after start m new before)
            (is.rows ∙ ap (λ (xs : List WatchedRow). rows_after start m new (take at before.rows) ++ xs) none ∙ append-nil (rows_after start m new (take at before.rows))
            ∙ ap (rows_after start m new) all)
            is.alerts is.sfi (ap (counted k.count) (sym no_change) ∙ is.count),
        sym (append-nil out) ∙ ap (λ (ys : List Change). out ++ told_from before k.count ys) (sym no_change) ∙ is.tells,
      )
