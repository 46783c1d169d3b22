-- What ends is the same whatever the places of entries, as long as their order stays.
use Rattle.std.proofs.Common.{◌≡◌, ℕ, Bool, ◌&&◌, ◌||◌, not, List, [], ◌∷◌, map, refl, ap, ◌∙◌, ◌==◌}
use Rattle.std.specs.Prelude.{Option, Some, None, filter, flat_map, is_some, is_none}
use Rattle.report_rules.specs.Rules as rules
use Rattle.claim_table.specs.Claims.{is_at}
use Rattle.pgn_profile.specs.declared.kinds.Kind.{Kind}
use Rattle.fast_packet.specs.FastRuns.{FastPiece}
use Rattle.fast_packet.specs.declared.key.FastKey.{FastKey}
use Rattle.iso_transport.specs.IsoRuns.{IsoPiece}
use Rattle.iso_transport.specs.declared.key.IsoKey.{IsoKey}
use Rattle.gate_events.specs.Emit.{Emit}
use Rattle.history.specs.Emits.{of_source, replied}
use Rattle.history.specs.Endings.{Side, abort_reply, fast_ended, fast_expired, fast_lost, fast_lost_at, iso_ended, iso_expired, iso_lost, iso_lost_at, lost_at, lost_elsewhere, session_pgn}
use Rattle.history.specs.Opens.{fast_keys, fast_open, iso_keys, iso_open, open_pgn}
use Rattle.history.specs.Traces.{NotedFrame}
use Rattle.recordings.proofs.Places.{closed}
use Rattle.recordings.proofs.Renumbered.{holder_as, known_as}
use Rattle.recordings.proofs.Traces.{AreApart, note_as, fast_keys_as, fast_open_as, iso_keys_as, iso_open_as}
use Rattle.recordings.proofs.Gathered.{gathered, joined, of_each}

abbrev pub side_as : (ℕ → ℕ) → Side → Side
side_as f x = record { known = known_as f x.known; moment = x.moment }

-- what is told of a key that ends
abbrev pub fast_told : ℕ → FastKey → List Emit
fast_told rule key = of_source rule key.source key.pgn ∷ []

abbrev pub expired_first : ℕ → IsoKey → Emit
expired_first pgn key = of_source rules.expired key.source pgn

abbrev pub expired_rest : Option ℕ → ℕ → IsoKey → List Emit
expired_rest own pgn key = replied own key.source (abort_reply key.addressed pgn)

abbrev pub lost_told : ℕ → IsoKey → List Emit
lost_told pgn key = of_source rules.claim_lost key.source pgn ∷ []

module _ (n : ℕ) (notes : List NotedFrame) (apart : AreApart n notes) (before after : Side) where
  fast_ended_as : (key : FastKey) → fast_ended (side_as (closed n) before) (side_as (closed n) after) (map (note_as (closed n)) notes) key ≡ fast_ended before after notes key
  fast_ended_as key =
      ap (λ (o : Option (List FastPiece)). is_some o && is_none (fast_open (map (holder_as (closed n)) after.known.claims.holders) (map (note_as (closed n)) notes) key after.moment))
      (fast_open_as n before.known.claims.holders notes key before.moment apart)
      ∙ ap (λ (o : Option (List FastPiece)). is_some (fast_open before.known.claims.holders notes key before.moment) && is_none o)
      (fast_open_as n after.known.claims.holders notes key after.moment apart)

  iso_ended_as : (key : IsoKey) → iso_ended (side_as (closed n) before) (side_as (closed n) after) (map (note_as (closed n)) notes) key ≡ iso_ended before after notes key
  iso_ended_as key =
      ap (λ (o : Option (List IsoPiece)). is_some o && is_none (iso_open (known_as (closed n) after.known) (map (note_as (closed n)) notes) key after.moment))
      (iso_open_as n before.known notes key before.moment apart)
      ∙ ap (λ (o : Option (List IsoPiece)). is_some (iso_open before.known notes key before.moment) && is_none o)
      (iso_open_as n after.known notes key after.moment apart)

  pgn_as : (key : IsoKey) → session_pgn (side_as (closed n) before) (map (note_as (closed n)) notes) key ≡ session_pgn before notes key
  pgn_as key = ap open_pgn (iso_open_as n before.known notes key before.moment apart)

  -- ---- of fast packets, by a test of keys

  fast_keys_told : (kinds : ℕ → Kind) (rule : ℕ) (p q : FastKey → Bool) → ((key : FastKey) → p key ≡ q key)
      → flat_map (fast_told rule) (filter p (fast_keys kinds (map (note_as (closed n)) notes))) ≡ flat_map (fast_told rule) (filter q (fast_keys kinds notes))
  fast_keys_told kinds rule p q same =
      ap (λ (keys : List FastKey). flat_map (fast_told rule) (filter p keys)) (fast_keys_as (closed n) kinds notes)
      ∙ gathered (fast_told rule) (fast_told rule) p q (fast_keys kinds notes)
      (of_each (λ key. (p key ≡ q key) × (fast_told rule key ≡ fast_told rule key)) (fast_keys kinds notes) (λ key. (same key, refl)))

  pub fast_expired_as : (kinds : ℕ → Kind)
      → fast_expired (side_as (closed n) before) (side_as (closed n) after) (map (note_as (closed n)) notes) kinds ≡ fast_expired before after notes kinds
  fast_expired_as kinds =
      fast_keys_told kinds rules.expired (fast_ended (side_as (closed n) before) (side_as (closed n) after) (map (note_as (closed n)) notes)) (fast_ended before after notes) fast_ended_as

  fast_lost_as : (kinds : ℕ → Kind) (meant : FastKey → Bool)
      → fast_lost (side_as (closed n) before) (side_as (closed n) after) (map (note_as (closed n)) notes) kinds meant ≡ fast_lost before after notes kinds meant
  fast_lost_as kinds meant =
      fast_keys_told kinds rules.claim_lost (λ key. meant key && fast_ended (side_as (closed n) before) (side_as (closed n) after) (map (note_as (closed n)) notes) key)
      (λ key. meant key && fast_ended before after notes key) (λ key. ap (λ (b : Bool). meant key && b) (fast_ended_as key))

  pub fast_lost_at_as : (kinds : ℕ → Kind) (a : Option ℕ)
      → fast_lost_at (side_as (closed n) before) (side_as (closed n) after) (map (note_as (closed n)) notes) kinds a ≡ fast_lost_at before after notes kinds a
  fast_lost_at_as kinds None = refl
  fast_lost_at_as kinds (Some a) = fast_lost_as kinds (λ key. key.source == a)

  -- ---- of sessions

  iso_keys_told : (u v : IsoKey → List Emit) (p q : IsoKey → Bool) → ((key : IsoKey) → u key ≡ v key) → ((key : IsoKey) → p key ≡ q key)
      → flat_map u (filter p (iso_keys (map (note_as (closed n)) notes))) ≡ flat_map v (filter q (iso_keys notes))
  iso_keys_told u v p q told same =
      ap (λ (keys : List IsoKey). flat_map u (filter p keys)) (iso_keys_as (closed n) notes)
      ∙ gathered u v p q (iso_keys notes) (of_each (λ key. (p key ≡ q key) × (u key ≡ v key)) (iso_keys notes) (λ key. (same key, told key)))

  pub iso_expired_as : iso_expired (side_as (closed n) before) (side_as (closed n) after) (map (note_as (closed n)) notes) ≡ iso_expired before after notes
  iso_expired_as =
      iso_keys_told
      (λ key. let pgn = session_pgn (side_as (closed n) before) (map (note_as (closed n)) notes) key in expired_first pgn key ∷ expired_rest before.known.claims.own pgn key)
      (λ key. let pgn = session_pgn before notes key in expired_first pgn key ∷ expired_rest before.known.claims.own pgn key)
      (iso_ended (side_as (closed n) before) (side_as (closed n) after) (map (note_as (closed n)) notes)) (iso_ended before after notes)
      (λ key. ap (λ (pgn : ℕ). expired_first pgn key ∷ expired_rest before.known.claims.own pgn key) (pgn_as key)) iso_ended_as

  iso_lost_as : (meant : IsoKey → Bool)
      → iso_lost (side_as (closed n) before) (side_as (closed n) after) (map (note_as (closed n)) notes) meant ≡ iso_lost before after notes meant
  iso_lost_as meant =
      iso_keys_told (λ key. lost_told (session_pgn (side_as (closed n) before) (map (note_as (closed n)) notes) key) key) (λ key. lost_told (session_pgn before notes key) key)
      (λ key. meant key && iso_ended (side_as (closed n) before) (side_as (closed n) after) (map (note_as (closed n)) notes) key) (λ key. meant key && iso_ended before after notes key)
      (λ key. ap (λ (pgn : ℕ). lost_told pgn key) (pgn_as key)) (λ key. ap (λ (b : Bool). meant key && b) (iso_ended_as key))

  iso_lost_at_as : (a : Option ℕ)
      → iso_lost_at (side_as (closed n) before) (side_as (closed n) after) (map (note_as (closed n)) notes) a ≡ iso_lost_at before after notes a
  iso_lost_at_as None = refl
  iso_lost_at_as (Some a) = iso_lost_as (λ key. key.source == a)

  pub lost_at_as : (kinds : ℕ → Kind) (a : Option ℕ)
      → lost_at (side_as (closed n) before) (side_as (closed n) after) (map (note_as (closed n)) notes) kinds a ≡ lost_at before after notes kinds a
  lost_at_as kinds a =
      joined (fast_lost_at_as kinds a) (iso_lost_at_as a)

  pub elsewhere_as : (left won : Option ℕ)
      → lost_elsewhere (side_as (closed n) before) (side_as (closed n) after) (map (note_as (closed n)) notes) left won ≡ lost_elsewhere before after notes left won
  elsewhere_as left won = iso_lost_as (λ key. key.addressed && not (is_at key.source left || is_at key.source won))
