-- Rows under watch and heartbeats, put together, are the same with a tick and without it, where they give nothing at that tick: whether a watched
-- row is silent doesn't depend on it.
use Rattle.std.proofs.Common.{◌≡◌, ℕ, ◌≤◌, Bool, List, [], ◌∷◌, ◌++◌, refl, ap, ◌∙◌}
use Rattle.std.specs.Prelude.{Option, Some, None, ◌||◌}
use Rattle.std.specs.List.{list_any}
use Rattle.history.specs.Entries.{Entry, History, moment_of, now, tick}
use Rattle.history.specs.Settings.{Settings}
use Rattle.settings.specs.declared.heartbeat.HeartbeatConfig.{HeartbeatConfig}
use Rattle.parts.specs.Compose.{maybe_give}
use Rattle.row_watch.specs.WatchOut.{is_overdue, is_silent}
use Rattle.row_watch.specs.WatchRule.{WatchRule, Watched}
use Rattle.row_watch.specs.WatchStands.{watch_gives}
use Rattle.heartbeats.specs.Beats.{Silence, beats_give_by}
use Rattle.supervision.specs.Supervised.{SupervisionRule, silence_by, supervision_gives}
use Rattle.recordings.proofs.Beats.{beats_first, beats_without}
use Rattle.recordings.proofs.Gathered.{joined, none_left, none_right}
use Rattle.recordings.proofs.Quiet.{Follows}
use Rattle.recordings.proofs.Watched.{last_without, watch_first, watch_without}

-- ---- at the moment of the start

watch_begins : (r : Option WatchRule) (c : Settings) (s : ℕ) → maybe_give watch_gives r c s [] (tick s) ≡ []
watch_begins None c s = refl
watch_begins (Some r) c s = watch_first r c s

beats_begin : (silent : Silence) (b : Option HeartbeatConfig) (c : Settings) (s : ℕ) → maybe_give (beats_give_by silent) b c s [] (tick s) ≡ []
beats_begin silent None c s = refl
beats_begin silent (Some b) c s = beats_first silent b c s

pub supervision_first : (r : SupervisionRule) (c : Settings) (s : ℕ) → supervision_gives r c s [] (tick s) ≡ []
supervision_first r c s = joined (watch_begins r.watch c s) (beats_begin (silence_by r.watch c s) r.beats c s)

-- ---- later

module _ (c : Settings) (s m : ℕ) (h : History) where
  any_without : (ws : List Watched) (newer : History) (e : Entry)
      → list_any (λ w. is_silent c s w (e ∷ newer ++ h)) ws ≡ list_any (λ w. is_silent c s w (e ∷ newer ++ tick m ∷ h)) ws
  any_without [] newer e = refl
  any_without (w ∷ ws) newer e =
      ap (λ (last : ℕ). is_overdue w.limit last (moment_of e) || list_any (λ w. is_silent c s w (e ∷ newer ++ h)) ws) (last_without c s m h w.row (e ∷ newer))
      ∙ ap (λ (others : Bool). is_silent c s w (e ∷ newer ++ tick m ∷ h) || others) (any_without ws newer e)

  silence_without : (r : Option WatchRule) (newer : History) (e : Entry) → silence_by r c s (newer ++ h) e ≡ silence_by r c s (newer ++ tick m ∷ h) e
  silence_without None newer e = refl
  silence_without (Some r) newer e = any_without r.rows newer e

  module _ (le : now h ≤ m) (newer : History) (e : Entry) where
    watch_on : (r : Option WatchRule) → maybe_give watch_gives r c s h (tick m) ≡ []
        → maybe_give watch_gives r c s (newer ++ h) e ≡ maybe_give watch_gives r c s (newer ++ tick m ∷ h) e
    watch_on None none = refl
    watch_on (Some r) none = watch_without c s m h r none newer e

    beats_on : (silent : Silence) (b : Option HeartbeatConfig) → ((newer : History) (e : Entry) → silent (newer ++ h) e ≡ silent (newer ++ tick m ∷ h) e)
        → maybe_give (beats_give_by silent) b c s h (tick m) ≡ [] → Follows m newer e
        → maybe_give (beats_give_by silent) b c s (newer ++ h) e ≡ maybe_give (beats_give_by silent) b c s (newer ++ tick m ∷ h) e
    beats_on silent None steady none follow = refl
    beats_on silent (Some b) steady none follow = beats_without silent c s m h le steady b none newer e follow

pub supervision_without : (r : SupervisionRule) (c : Settings) (s m : ℕ) (h : History) → now h ≤ m → supervision_gives r c s h (tick m) ≡ []
    → (newer : History) (e : Entry) → Follows m newer e → supervision_gives r c s (newer ++ h) e ≡ supervision_gives r c s (newer ++ tick m ∷ h) e
supervision_without r c s m h le none newer e follow =
    let silent = silence_by r.watch c s in
    let rows = maybe_give watch_gives r.watch c s h (tick m) in
    let beats = maybe_give (beats_give_by silent) r.beats c s h (tick m) in
    joined (watch_on c s m h le newer e r.watch (none_left rows beats none))
    (beats_on c s m h le newer e silent r.beats (silence_without c s m h r.watch) (none_right rows beats none) follow)
