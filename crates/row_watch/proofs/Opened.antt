-- The watch that a file asks for, with nothing said yet.
use Rattle.std.proofs.Common.{◌≡◌, ℕ, ◌==◌, true, false, List, [], ◌∷◌, length, refl, sym, subst, arith}
use Rattle.std.proofs.lemmas.Bool.{eqb-true}
use Rattle.std.specs.Prelude.{Some, None}
use Rattle.history.specs.Settings.{Settings}
use Rattle.settings.specs.declared.watch.WatchConfig.{WatchConfig}
use Rattle.parts.specs.Compose.{maybe_stand}
use Rattle.parts.specs.PartSteps.{IsOpened}
use Rattle.row_watch.specs.WatchKept.{Watch}
use Rattle.row_watch.specs.WatchRule.{WatchRule, Watched, asked, if_any, watch_rule}
use Rattle.row_watch.specs.WatchStands.{IsOpenedWatch, RowsStand, WatchStands, watch_stands}
use Rattle.row_watch.specs.declared.watched_row.WatchedRow.{WatchedRow}

no_rows : (c : Settings) (s : ℕ) (ws : List Watched) (ks : List WatchedRow) → RowsStand c s [] ws ks → (length ks == 0) ≡ true → ws ≡ []
no_rows c s [] ks stand none = refl
no_rows c s (w ∷ ws) [] stand none = absurd stand
no_rows c s (w ∷ ws) (k ∷ ks) stand none = absurd (omega (arith, eqb-true (length (k ∷ ks)) 0 none))

pub none_opened : (config : WatchConfig) (sfi : List ℕ) (k : Watch) → IsOpenedWatch (watch_rule config sfi) k → (length k.rows == 0) ≡ true
    → (c : Settings) → IsOpened (maybe_stand watch_stands) (asked config sfi) c None
none_opened config sfi k opened none c s =
    let rule = watch_rule config sfi in
    subst (λ (ws : List Watched). maybe_stand watch_stands (if_any ws rule) c s [] None) (sym (no_rows c s rule.rows k.rows (opened c s).rows none)) tt

some_rows : (rule : WatchRule) (c : Settings) (s : ℕ) (k : Watch) (ws : List Watched) (ks : List WatchedRow) → RowsStand c s [] ws ks → (length ks == 0) ≡ false
    → WatchStands rule c s [] k → maybe_stand watch_stands (if_any ws rule) c s [] (Some k)
some_rows rule c s k [] [] stand some is = absurd cc
some_rows rule c s k [] (x ∷ ks) stand some is = absurd stand
some_rows rule c s k (w ∷ ws) ks stand some is = is

pub some_opened : (config : WatchConfig) (sfi : List ℕ) (k : Watch) → IsOpenedWatch (watch_rule config sfi) k → (length k.rows == 0) ≡ false
    → (c : Settings) → IsOpened (maybe_stand watch_stands) (asked config sfi) c (Some k)
some_opened config sfi k opened some c s =
    let rule = watch_rule config sfi in
    some_rows rule c s k rule.rows k.rows (opened c s).rows some (opened c s)
