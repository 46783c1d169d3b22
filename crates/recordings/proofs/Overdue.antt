-- What is overdue: where nothing ends by a moment, what ends later is what ends from that moment on.
use Rattle.std.proofs.Common.{◌≡◌, ℕ, ◌≤◌, Bool, true, false, ◌&&◌, not, List, [], ◌∷◌, ◌++◌, length, map, refl, sym, ap, ◌∙◌}
use Rattle.std.specs.Prelude.{Option, Some, None, is_some, is_none, if◌then◌else◌}
use Rattle.report_rules.specs.Rules as rules
use Rattle.pgn_profile.specs.Profiled.{kind_of}
use Rattle.pgn_profile.specs.declared.kinds.Kind.{Kind}
use Rattle.slot_views.specs.Runs.{Rules, in_time, kept_at}
use Rattle.fast_packet.specs.FastRuns.{FastPiece, fast_rules}
use Rattle.fast_packet.specs.declared.key.FastKey.{FastKey}
use Rattle.iso_transport.specs.IsoRuns.{IsoPiece, iso_rules}
use Rattle.iso_transport.specs.declared.key.IsoKey.{IsoKey}
use Rattle.tag_block.specs.GroupRuns.{GroupLine, group_rules}
use Rattle.tag_block.specs.declared.group_key.GroupKey.{GroupKey}
use Rattle.gate_events.specs.Emit.{Emit}
use Rattle.gate_events.specs.declared.emit.Detail.TheVariants as detail
use Rattle.history.specs.Emits.{broken, of_source}
use Rattle.history.specs.Endings.{fast_ended, fast_expired, group_ended, groups_expired, iso_ended, iso_expired, side}
use Rattle.history.specs.Entries.{Entry, History, moment_of, now, tick}
use Rattle.history.specs.Gate.{expired, heard}
use Rattle.history.specs.Heard.{HeardItem, Taken, group_keys, group_open, taken_lines}
use Rattle.history.specs.Known.{Known, known}
use Rattle.history.specs.Opens.{fast_keys, fast_open, iso_keys, iso_open, notes_of, open_pgn}
use Rattle.history.specs.Settings.{Receiver, Settings, receiver_of}
use Rattle.history.specs.Traces.{NotedFrame}
use Rattle.history.proofs.GroupSteps.{group_ends}
use Rattle.history.proofs.KeySteps.{fast_ends}
use Rattle.history.proofs.SessionSteps.{iso_ends}
use Rattle.recordings.proofs.Places.{closed}
use Rattle.recordings.proofs.Renumbered.{known_as}
use Rattle.recordings.proofs.Known.{known_without}
use Rattle.recordings.proofs.Traces.{AreApart, note_as}
use Rattle.recordings.proofs.Noted.{notes_apart, notes_without}
use Rattle.recordings.proofs.Said.{heard_without}
use Rattle.recordings.proofs.Gathered.{ap₃, gathered, joined, none_left, none_passes, none_right, weaker}
use Rattle.recordings.proofs.Endings.{expired_first, expired_rest, fast_expired_as, fast_told, iso_expired_as}

-- what isn't over at a moment is open still
kept_same : {X : Type 0} (r : Rules X) (o : Option (List X)) (m : ℕ) → (is_some o && is_none (kept_at r o m)) ≡ false → kept_at r o m ≡ o
kept_same r None m goes_on = refl
kept_same r (Some acc) m goes_on = by (in_time r acc m) goes_on
  where
    by : (b : Bool) → not (is_some (if b then Some acc else None)) ≡ false → (if b then Some acc else None) ≡ Some acc
    by true e = refl
    by false e = absurd (cc)

open_still : {X : Type 0} (r : Rules X) (o later : Option (List X)) (m : ℕ) → later ≡ kept_at r o m → (is_some o && is_none later) ≡ false → later ≡ o
open_still {X = X} r o later m kept goes_on = kept ∙ kept_same r o m (ap (λ (x : Option (List X)). is_some o && is_none x) (sym kept) ∙ goes_on)

module _ (k : Known) (notes : List NotedFrame) (a m t : ℕ) (le : a ≤ m) where
  fast_still : (key : FastKey) → fast_ended (side k a) (side k m) notes key ≡ false → fast_open k.claims.holders notes key m ≡ fast_open k.claims.holders notes key a
  fast_still key goes_on =
      open_still fast_rules (fast_open k.claims.holders notes key a) (fast_open k.claims.holders notes key m) m (fast_ends k.claims.holders notes key a m le) goes_on

  iso_still : (key : IsoKey) → iso_ended (side k a) (side k m) notes key ≡ false → iso_open k notes key m ≡ iso_open k notes key a
  iso_still key goes_on = open_still (iso_rules key.addressed) (iso_open k notes key a) (iso_open k notes key m) m (iso_ends k notes key a m le) goes_on

  pub fast_idle : (kinds : ℕ → Kind) → fast_expired (side k a) (side k m) notes kinds ≡ []
      → fast_expired (side k a) (side k t) notes kinds ≡ fast_expired (side k m) (side k t) notes kinds
  fast_idle kinds none =
      gathered (fast_told rules.expired) (fast_told rules.expired) (fast_ended (side k a) (side k t) notes) (fast_ended (side k m) (side k t) notes) (fast_keys kinds notes)
      (weaker (λ key. fast_ended (side k a) (side k m) notes key ≡ false)
      (λ key. (fast_ended (side k a) (side k t) notes key ≡ fast_ended (side k m) (side k t) notes key) × (fast_told rules.expired key ≡ fast_told rules.expired key))
      (fast_keys kinds notes)
      (λ key goes_on. (ap (λ (o : Option (List FastPiece)). is_some o && is_none (fast_open k.claims.holders notes key t)) (sym (fast_still key goes_on)), refl))
      (none_passes (λ key. of_source rules.expired key.source key.pgn) (λ key. []) (fast_ended (side k a) (side k m) notes) (fast_keys kinds notes) none))

  abbrev iso_told : Option (List IsoPiece) → IsoKey → List Emit
  iso_told o key = let pgn = open_pgn o in expired_first pgn key ∷ expired_rest k.claims.own pgn key

  iso_idle : iso_expired (side k a) (side k m) notes ≡ [] → iso_expired (side k a) (side k t) notes ≡ iso_expired (side k m) (side k t) notes
  iso_idle none =
      gathered (λ key. iso_told (iso_open k notes key a) key) (λ key. iso_told (iso_open k notes key m) key)
      (iso_ended (side k a) (side k t) notes) (iso_ended (side k m) (side k t) notes) (iso_keys notes)
      (weaker (λ key. iso_ended (side k a) (side k m) notes key ≡ false)
      (λ key. (iso_ended (side k a) (side k t) notes key ≡ iso_ended (side k m) (side k t) notes key) × (iso_told (iso_open k notes key a) key ≡ iso_told (iso_open k notes key m) key))
      (iso_keys notes)
      (λ key goes_on. (
        ap (λ (o : Option (List IsoPiece)). is_some o && is_none (iso_open k notes key t)) (sym (iso_still key goes_on)),
        ap (λ (o : Option (List IsoPiece)). iso_told o key) (sym (iso_still key goes_on)),
      ))
      (none_passes (λ key. expired_first (open_pgn (iso_open k notes key a)) key) (λ key. expired_rest k.claims.own (open_pgn (iso_open k notes key a)) key)
      (iso_ended (side k a) (side k m) notes) (iso_keys notes) none))

module _ (lines : List Taken) (a m t : ℕ) (le : a ≤ m) where
  group_still : (key : GroupKey) → group_ended lines a m key ≡ false → group_open lines key m ≡ group_open lines key a
  group_still key goes_on = open_still group_rules (group_open lines key a) (group_open lines key m) m (group_ends lines key a m le) goes_on

  abbrev group_first : GroupKey → Emit
  group_first key = broken rules.group_expired (detail.GroupKey key.sfi key.code)

  groups_idle : groups_expired lines a m ≡ [] → groups_expired lines a t ≡ groups_expired lines m t
  groups_idle none =
      gathered (λ key. group_first key ∷ []) (λ key. group_first key ∷ []) (group_ended lines a t) (group_ended lines m t) (group_keys lines)
      (weaker (λ key. group_ended lines a m key ≡ false)
      (λ key. (group_ended lines a t key ≡ group_ended lines m t key) × ((group_first key ∷ []) ≡ (group_first key ∷ [])))
      (group_keys lines)
      (λ key goes_on. (ap (λ (o : Option (List GroupLine)). is_some o && is_none (group_open lines key t)) (sym (group_still key goes_on)), refl))
      (none_passes group_first (λ key. []) (group_ended lines a m) (group_keys lines) none))

-- ---- all that the gateway tells of what is overdue, since a moment

abbrev pub expired_since : Settings → Known → List NotedFrame → List HeardItem → ℕ → ℕ → List Emit
expired_since c k notes items a t =
    fast_expired (side k a) (side k t) notes kind_of ++ iso_expired (side k a) (side k t) notes ++ groups_expired (taken_lines c items) a t

since_as : (c : Settings) (n : ℕ) (k : Known) (notes : List NotedFrame) (items : List HeardItem) (a t : ℕ) → AreApart n notes
    → expired_since c (known_as (closed n) k) (map (note_as (closed n)) notes) items a t ≡ expired_since c k notes items a t
since_as c n k notes items a t apart =
    ap (λ x. x ++ groups_expired (taken_lines c items) a t)
    (joined (fast_expired_as n notes apart (side k a) (side k t) kind_of) (iso_expired_as n notes apart (side k a) (side k t)))

since_idle : (c : Settings) (k : Known) (notes : List NotedFrame) (items : List HeardItem) (a m t : ℕ) → a ≤ m → expired_since c k notes items a m ≡ []
    → expired_since c k notes items a t ≡ expired_since c k notes items m t
since_idle c k notes items a m t le none =
    let both : fast_expired (side k a) (side k m) notes kind_of ++ iso_expired (side k a) (side k m) notes ≡ [] =
    none_left (fast_expired (side k a) (side k m) notes kind_of ++ iso_expired (side k a) (side k m) notes) (groups_expired (taken_lines c items) a m) none in
    joined
    (joined (fast_idle k notes a m t le kind_of (none_left (fast_expired (side k a) (side k m) notes kind_of) (iso_expired (side k a) (side k m) notes) both))
    (iso_idle k notes a m t le (none_right (fast_expired (side k a) (side k m) notes kind_of) (iso_expired (side k a) (side k m) notes) both)))
    (groups_idle (taken_lines c items) a m t le
    (none_right (fast_expired (side k a) (side k m) notes kind_of ++ iso_expired (side k a) (side k m) notes) (groups_expired (taken_lines c items) a m) none))

module _ (c : Settings) (s m : ℕ) (h : History) where
  -- since an entry that came after the tick
  pub expired_later : (e : Entry) (newer : History) (t : ℕ) → expired c s (e ∷ newer ++ h) t ≡ expired c s (e ∷ newer ++ tick m ∷ h) t
  expired_later e newer t =
      ap₃ (λ (k : Known) (notes : List NotedFrame) (items : List HeardItem). expired_since c k notes items (moment_of e) t)
      (known_without (receiver_of c) s m h (e ∷ newer)) (notes_without (receiver_of c) s m h (e ∷ newer)) (heard_without c s m h (e ∷ newer))
      ∙ since_as c (length h) (known (receiver_of c) s (e ∷ newer ++ tick m ∷ h)) (notes_of (receiver_of c) s (e ∷ newer ++ tick m ∷ h)) (heard c s (e ∷ newer ++ tick m ∷ h))
      (moment_of e) t (notes_apart (receiver_of c) s m h (e ∷ newer))

  -- since the tick, where nothing was overdue at it
  pub expired_first_later : now h ≤ m → expired c s h m ≡ [] → (t : ℕ) → expired c s h t ≡ expired c s (tick m ∷ h) t
  expired_first_later le none t = since_idle c (known (receiver_of c) s h) (notes_of (receiver_of c) s h) (heard c s h) (now h) m t le none

-- of the fast packets of a receiver
module _ (r : Receiver) (s m : ℕ) (h : History) where
  pub listened_later : (e : Entry) (newer : History) (t : ℕ)
      → fast_expired (side (known r s (e ∷ newer ++ h)) (moment_of e)) (side (known r s (e ∷ newer ++ h)) t) (notes_of r s (e ∷ newer ++ h)) r.kinds
      ≡ fast_expired (side (known r s (e ∷ newer ++ tick m ∷ h)) (moment_of e)) (side (known r s (e ∷ newer ++ tick m ∷ h)) t) (notes_of r s (e ∷ newer ++ tick m ∷ h)) r.kinds
  listened_later e newer t =
      ap (λ (k : Known). fast_expired (side k (moment_of e)) (side k t) (notes_of r s (e ∷ newer ++ h)) r.kinds) (known_without r s m h (e ∷ newer))
      ∙ ap (λ (notes : List NotedFrame). let k = known_as (closed (length h)) (known r s (e ∷ newer ++ tick m ∷ h)) in fast_expired (side k (moment_of e)) (side k t) notes r.kinds)
      (notes_without r s m h (e ∷ newer))
      ∙ fast_expired_as (length h) (notes_of r s (e ∷ newer ++ tick m ∷ h)) (notes_apart r s m h (e ∷ newer))
      (side (known r s (e ∷ newer ++ tick m ∷ h)) (moment_of e)) (side (known r s (e ∷ newer ++ tick m ∷ h)) t) r.kinds
