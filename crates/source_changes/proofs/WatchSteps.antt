-- The kept NAMEs stand for the history with one more entry, and tell what the definition over the whole history says.
use Rattle.std.proofs.Common.{◌≡◌, ℕ, ◌<◌, Bool, true, false, List, [], ◌∷◌, length, refl, sym, ap, subst, ◌∙◌, arith}
use Rattle.std.specs.Prelude.{Option, Some, None, option_map, slice_set, if◌then◌else◌}
use Rattle.std.proofs.lemmas.Bool.{eq-eqb, eqb-true}
use Rattle.std.proofs.lemmas.List.{get_or-set_same, get_or-set_other, length-set}
use Rattle.n2k_id.specs.declared.name.Name.{Name}
use Rattle.readings.specs.declared.rows.Row.{Row}
use Rattle.readings.specs.Rows.{row_of, row_number, rows_count}
use Rattle.report_rules.specs.Rules as rules
use Rattle.gate_events.specs.declared.emit.Detail.TheVariants as detail
use Rattle.gate_events.specs.declared.emit.Report.{Report}
use Rattle.history.specs.Emits.{report_of}
use Rattle.history.specs.Entries.{History}
use Rattle.history.specs.Settings.{Settings, same_row}
use Rattle.gate_model.specs.Machine.{Machine}
use Rattle.gate_outbox.specs.Output.{Output}
use Rattle.parts.specs.SelectedMessage.{SelectedMessage}
use Rattle.parts.specs.Picked.{IsPicked, message_of}
use Rattle.parts.specs.Selected.{Selected, last_of, newer, selected_at}
use Rattle.source_changes.specs.WatchKept.{change_by, is_by, name_at, names_after, no_names}
use Rattle.source_changes.specs.SourceOut.{changed, is_same}
use Rattle.source_changes.specs.WatchStands.{CommandsKeepWatchedNames, IsWatchStep, WatchStands, name_of}

within : (row : Row) → row_number row < rows_count
within row = grind arith

none_named : (row : Row) → name_at no_names row ≡ None
none_named row = grind arith

pub none_stands : (c : Settings) (s : ℕ) → WatchStands c s [] no_names
none_stands c s = record { long = refl; each = none_named }

-- ---- one more message

module _ (names : List (Option Name)) (long : length names ≡ rows_count) (row : Row) (x : Selected) (before : Option Selected)
    (is : name_at names row ≡ option_map name_of before) where
  abbrev n : ℕ
  n = row_number (row_of x.reading)

  by_row : (b : Bool) → same_row (row_of x.reading) row ≡ b
      → name_at (slice_set names n (Some (name_of x))) row ≡ option_map name_of (if b then Some x else before)
  by_row true same =
      let here : n ≡ row_number row = eqb-true n (row_number row) same in
      let room : row_number row < length names = omega (arith, long, within row) in
      ap (λ (k : ℕ). name_at (slice_set names k (Some (name_of x))) row) here ∙ get_or-set_same names (row_number row) (Some (name_of x)) None room
  by_row false other = get_or-set_other names n (row_number row) (Some (name_of x)) None elsewhere ∙ is
    where
      elsewhere : row_number row ≡ n → ⊥
      elsewhere same = let never : true ≡ false = sym (eq-eqb n (row_number row) (sym same)) ∙ other in cc

  pub named : name_at (names_after (Some (message_of x)) names) row ≡ option_map name_of (newer row (Some x) before)
  named = by_row (same_row (row_of x.reading) row) refl

same_device : (x : Selected) (before : Option Selected) → is_by (message_of x).name (option_map name_of before) ≡ is_same before x
same_device x None = refl
same_device x (Some y) = refl

module _ (c : Settings) (s : ℕ) (h : History) (names : List (Option Name)) (stands : WatchStands c s h names) where
  long_after : (x : Option SelectedMessage) → length (names_after x names) ≡ rows_count
  long_after None = stands.long
  long_after (Some x) = length-set names (row_number (row_of x.reading)) (Some x.name) ∙ stands.long

  named_after : (row : Row) (x : Option Selected) → name_at (names_after (option_map message_of x) names) row ≡ option_map name_of (newer row x (last_of c s row h))
  named_after row None = stands.each row
  named_after row (Some x) = named names stands.long row x (last_of c s row h) (stands.each row)

  told_after : (x : Option Selected) → change_by (option_map message_of x) names ≡ changed c s h x
  told_after None = refl
  told_after (Some x) =
      let change : Option Report = Some (report_of rules.source_changed (detail.Row (row_of x.reading) x.source)) in
      ap (λ (d : Option Name). if is_by (message_of x).name d then None else change) (stands.each (row_of x.reading))
      ∙ ap (λ (b : Bool). if b then None else change) (same_device x (last_of c s (row_of x.reading) h))

pub watches : (g : Machine) (left : Output) (new : Option SelectedMessage) (before after : List (Option Name)) (told : Option Report) → IsPicked g left new
    → after ≡ names_after new before → told ≡ change_by new before → IsWatchStep g left before after told
watches g left new before after told picked after_is told_is c s h e taken stands =
    let x = selected_at c s h e in
    let new_is : new ≡ option_map message_of x = picked c s h e taken in
    let next : after ≡ names_after (option_map message_of x) before = after_is ∙ ap (λ k. names_after k before) new_is in
    record {
      stands = subst (WatchStands c s (e ∷ h)) (sym next)
          (record { long = long_after c s h before stands (option_map message_of x); each = λ row. named_after c s h before stands row x });
      told_is = told_is ∙ ap (λ k. change_by k before) new_is ∙ told_after c s h before stands x;
    }

pub commands_keep_watched_names : CommandsKeepWatchedNames
commands_keep_watched_names c s h m source address names stands = record { long = stands.long; each = stands.each }
