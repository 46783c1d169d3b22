-- What is kept of rows under watch stands for the history with one more entry, and tells what the definition over the whole history says.
use Rattle.std.proofs.Common.{◌≡◌, ℕ, ◌+◌, ◌-◌, ◌*◌, ◌%◌, Bool, true, false, List, [], ◌∷◌, ◌++◌, length, refl, sym, ap, subst, ◌∙◌, arith}
use Rattle.std.proofs.Math.Nat.{mod-add-mod}
use Rattle.std.specs.Prelude.{◌||◌, Option, Some, None, option_map, unwrap_or, if◌then◌else◌}
use Rattle.std.specs.List.{list_any}
use Rattle.std.proofs.lemmas.Bool.{le-ltb}
use Rattle.readings.specs.declared.rows.Row.{Row}
use Rattle.readings.specs.Rows.{rows as all_rows}
use Rattle.tag_block.specs.Tag.{most_count}
use Rattle.datagram450.proofs.Counts.{counted_modulo}
use Rattle.gate_events.specs.Emit.{Emit, net}
use Rattle.history.specs.Entries.{Entry, History, moment_of}
use Rattle.history.specs.Settings.{Settings}
use Rattle.parts.specs.SelectedMessage.{SelectedMessage}
use Rattle.parts.specs.Picked.{IsPicked, message_of}
use Rattle.parts.specs.PartSteps.{Says, entry_at}
use Rattle.parts.specs.declared.part.Step.{Step}
use Rattle.parts.specs.Selected.{Selected, selected_at}
use Rattle.settings.specs.declared.watch.AlertConfig.{AlertConfig}
use Rattle.settings.specs.declared.watch.WatchConfig.{WatchConfig}
use Rattle.row_watch.specs.Alert.{alert_text}
use Rattle.row_watch.specs.Alerts.{alerts_output}
use Rattle.row_watch.specs.declared.alerts.Alerts.{Alerts}
use Rattle.row_watch.specs.WatchKept.{Watch, any_kept_silent, counted, next_count, opened_rows, opened_watch, row_after, rows_after, rows_change, said_at, told_from, watch_after, watch_tells}
use Rattle.row_watch.specs.WatchOut.{Change, alert_of, change, changes, changes_before, is_overdue, is_silent, last_said, report_of, said_with, says, told, watch_out}
use Rattle.row_watch.specs.WatchRule.{WatchRule, Watched, watch_rule, watched_of}
use Rattle.row_watch.specs.WatchStands.{IsOpenedWatch, RowStands, RowsStand, TellsSilence, WatchStands, watch_gives, watch_stands}
use Rattle.row_watch.specs.declared.watched_row.WatchedRow.{WatchedRow}

-- ---- a row

module _ (s : ℕ) where
  said_same : (row : Row) (x : Option Selected) (kept : Option ℕ) (last : ℕ) → unwrap_or kept s ≡ last
      → unwrap_or (said_at row (option_map message_of x) kept) s ≡ said_with row x last
  said_same row None kept last is = is
  said_same row (Some x) kept last is = by (says row x)
    where
      by : (b : Bool) → unwrap_or (if b then Some x.moment else kept) s ≡ (if b then x.moment else last)
      by true = refl
      by false = is

module _ (c : Settings) (s : ℕ) (h : History) (e : Entry) where
  abbrev new : Option SelectedMessage
  new = option_map message_of (selected_at c s h e)

  abbrev m : ℕ
  m = moment_of e

  module _ (w : Watched) (k : WatchedRow) (stands : RowStands c s h w k) where
    heard : unwrap_or (said_at k.row new k.said) s ≡ last_said c s w.row (e ∷ h)
    heard = ap (λ row. unwrap_or (said_at row new k.said) s) stands.row ∙ said_same s w.row (selected_at c s h e) k.said (last_said c s w.row h) stands.said

    silent_now : (row_after s m new k).silent ≡ is_silent c s w (e ∷ h)
    silent_now =
        ap (λ limit. is_overdue limit (unwrap_or (said_at k.row new k.said) s) m) stands.limit
        ∙ ap (λ last. is_overdue w.limit last m) heard

    row_stands : RowStands c s (e ∷ h) w (row_after s m new k)
    row_stands = record { row = stands.row; limit = stands.limit; said = heard; silent = silent_now }

    row_changes : change k.row k.silent (row_after s m new k).silent ≡ change w.row (is_silent c s w h) (is_silent c s w (e ∷ h))
    row_changes =
        ap (λ row. change row k.silent (row_after s m new k).silent) stands.row
        ∙ ap (λ before. change w.row before (row_after s m new k).silent) stands.silent
        ∙ ap (change w.row (is_silent c s w h)) silent_now

  rows_stand : (ws : List Watched) (ks : List WatchedRow) → RowsStand c s h ws ks → RowsStand c s (e ∷ h) ws (rows_after s m new ks)
  rows_stand [] [] stand = tt
  rows_stand [] (k ∷ ks) stand = absurd stand
  rows_stand (w ∷ ws) [] stand = absurd stand
  rows_stand (w ∷ ws) (k ∷ ks) stand = (row_stands w k stand.0, rows_stand ws ks stand.1)

  same_changes : (ws : List Watched) (ks : List WatchedRow) → RowsStand c s h ws ks → rows_change s m new ks ≡ changes c s ws h e
  same_changes [] [] stand = refl
  same_changes [] (k ∷ ks) stand = absurd stand
  same_changes (w ∷ ws) [] stand = absurd stand
  same_changes (w ∷ ws) (k ∷ ks) stand =
      ap (λ xs. xs ++ rows_change s m new ks) (row_changes w k stand.0)
      ∙ ap (λ xs. change w.row (is_silent c s w h) (is_silent c s w (e ∷ h)) ++ xs) (same_changes ws ks stand.1)

-- ---- what is told, and how many lines were said

alert_modulo : (sfi : List ℕ) (alerts : Option AlertConfig) (n : ℕ) (x : Change) → alert_of sfi alerts (n % most_count) x ≡ alert_of sfi alerts n x
alert_modulo sfi None n x = refl
alert_modulo sfi (Some a) n x = ap (λ (bytes : List ℕ). net a.group bytes ∷ []) (counted_modulo sfi n (alert_text a.talker x.row x.said))

next_modulo : (n : ℕ) → next_count (n % most_count) ≡ (n + 1) % most_count
next_modulo n = mod-add-mod n most_count 1

told_so : (k : Watch) (n : ℕ) (xs : List Change) → told_from k (n % most_count) xs ≡ told k.sfi k.alerts n xs
told_so k n [] = refl
told_so k n (x ∷ xs) =
    ap (λ (es : List Emit). report_of x ∷ (es ++ told_from k (next_count (n % most_count)) xs)) (alert_modulo k.sfi k.alerts n x)
    ∙ ap (λ (count : ℕ). report_of x ∷ (alert_of k.sfi k.alerts n x ++ told_from k count xs)) (next_modulo n)
    ∙ ap (λ (es : List Emit). report_of x ∷ (alert_of k.sfi k.alerts n x ++ es)) (told_so k (n + 1) xs)

counted_so : (n : ℕ) (xs : List Change) → counted (n % most_count) xs ≡ (n + length xs) % most_count
counted_so n [] = ap (λ k. k % most_count) (omega arith)
counted_so n (x ∷ xs) =
    ap (λ (count : ℕ). counted count xs) (next_modulo n) ∙ counted_so (n + 1) xs
    ∙ ap (λ (k : ℕ). k % most_count) (omega arith)

-- ---- a step

module _ (r : WatchRule) (c : Settings) (s : ℕ) (h : History) (e : Entry) (k : Watch) (stands : WatchStands r c s h k) where
  abbrev found : Option SelectedMessage
  found = option_map message_of (selected_at c s h e)

  same : rows_change s (moment_of e) found k.rows ≡ changes c s r.rows h e
  same = same_changes c s h e r.rows k.rows stands.rows

  pub watch_stands_so : WatchStands r c s (e ∷ h) (watch_after s (moment_of e) found k)
  watch_stands_so = record {
    alerts = stands.alerts;
    sfi = stands.sfi;
    rows = rows_stand c s h e r.rows k.rows stands.rows;
    count =
        ap (λ (count : ℕ). counted count (rows_change s (moment_of e) found k.rows)) stands.count
        ∙ ap (counted (changes_before c s r h % most_count)) same
        ∙ counted_so (changes_before c s r h) (changes c s r.rows h e);
  }

  pub watch_tells_so : watch_tells s (moment_of e) found k ≡ watch_out c s r h e
  watch_tells_so =
      ap (λ (count : ℕ). told_from k count (rows_change s (moment_of e) found k.rows)) stands.count
      ∙ ap (told_from k (changes_before c s r h % most_count)) same
      ∙ told_so k (changes_before c s r h) (changes c s r.rows h e)
      ∙ ap (λ (sfi : List ℕ). told sfi k.alerts (changes_before c s r h) (changes c s r.rows h e)) stands.sfi
      ∙ ap (λ (alerts : Option AlertConfig). told r.sfi alerts (changes_before c s r h) (changes c s r.rows h e)) stands.alerts

-- what a step of the gateway left is handed on
pub watches : (t : Step) (moment : ℕ) (new : Option SelectedMessage) (before after : Watch) (place : Alerts) → moment ≡ t.gateway.now.moment → IsPicked t.gateway.now t.outbox.now new
    → after ≡ watch_after t.start moment new before → alerts_output place ≡ watch_tells t.start moment new before
    → Says watch_stands watch_gives alerts_output t before after place
watches t moment new before after place at picked after_is tells_is r c s h step stands =
    let e = entry_at t in
    let when : moment ≡ moment_of e = at ∙ step.taken.stands.moment in
    let message : Option SelectedMessage = option_map message_of (selected_at c s h e) in
    let found : new ≡ message = picked c s h e step.taken in
    let after_so : watch_after t.start moment new before ≡ watch_after s (moment_of e) message before =
    ap (λ (start : ℕ). watch_after start moment new before) step.start ∙ ap (λ (m : ℕ). watch_after s m new before) when
    ∙ ap (λ (x : Option SelectedMessage). watch_after s (moment_of e) x before) found in
    let tells_so : watch_tells t.start moment new before ≡ watch_tells s (moment_of e) message before =
    ap (λ (start : ℕ). watch_tells start moment new before) step.start ∙ ap (λ (m : ℕ). watch_tells s m new before) when
    ∙ ap (λ (x : Option SelectedMessage). watch_tells s (moment_of e) x before) found in
    record {
      stood = subst (λ (k : Watch). WatchStands r c s (e ∷ h) k) (sym (after_is ∙ after_so)) (watch_stands_so r c s h e before stands);
      emits = tells_is ∙ tells_so ∙ watch_tells_so r c s h e before stands;
    }

-- ---- with nothing said yet

pub never_overdue : (limit s : ℕ) → is_overdue limit s 0 ≡ false
never_overdue limit s = le-ltb (1000 * limit) (0 - s) (omega arith)

rows_opened : (c : Settings) (s : ℕ) (ws : List Watched) → RowsStand c s [] ws (opened_rows ws)
rows_opened c s [] = tt
rows_opened c s (w ∷ ws) = (record { row = refl; limit = refl; said = refl; silent = sym (never_overdue w.limit s) }, rows_opened c s ws)

pub watch_opened : (config : WatchConfig) (sfi : List ℕ) → IsOpenedWatch (watch_rule config sfi) (opened_watch (watched_of config.limits all_rows) config.alerts sfi)
unfolding watch_rule
watch_opened config sfi c s = record { alerts = refl; sfi = refl; rows = rows_opened c s (watched_of config.limits all_rows); count = refl }

-- ---- any of them is silent

silent_so : (c : Settings) (s : ℕ) (h : History) (ws : List Watched) (ks : List WatchedRow) → RowsStand c s h ws ks
    → any_kept_silent ks ≡ list_any (λ w. is_silent c s w h) ws
silent_so c s h [] [] stand = refl
silent_so c s h [] (k ∷ ks) stand = absurd stand
silent_so c s h (w ∷ ws) [] stand = absurd stand
silent_so c s h (w ∷ ws) (k ∷ ks) stand =
    ap (λ (b : Bool). b || any_kept_silent ks) stand.0.silent ∙ ap (λ (b : Bool). is_silent c s w h || b) (silent_so c s h ws ks stand.1)

pub tells_silence : (k : Watch) (silent : Bool) → silent ≡ any_kept_silent k.rows → TellsSilence k silent
tells_silence k silent is r c s h stands = is ∙ silent_so c s h r.rows k.rows stands.rows
