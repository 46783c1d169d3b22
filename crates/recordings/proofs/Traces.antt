-- The frames that belong together are the same whatever the places of entries, as long as their order stays.
use Rattle.std.proofs.Common.{◌≡◌, ◌≢◌, ℕ, Bool, true, false, ◌&&◌, List, [], ◌∷◌, map, refl, ap, ◌∙◌, ◌==◌, nat_le, nat_lt}
use Rattle.std.specs.Prelude.{Option, Some, None, filter, is_some, not, length, option_map, if◌then◌else◌}
use Rattle.std.specs.List.{AllByRecursion}
use Rattle.std.proofs.lemmas.List.Elements.{filter_agree}
use Rattle.n2k_id.specs.declared.identifier_parts.Parts.{Parts}
use Rattle.claim_table.specs.declared.answer.Holder.{Holder}
use Rattle.pgn_profile.specs.declared.kinds.Kind.{Kind}
use Rattle.slot_views.specs.Runs.{open_at}
use Rattle.fast_packet.specs.declared.key.FastKey.{FastKey}
use Rattle.fast_packet.specs.FastRuns.{FastPiece, fast_rules}
use Rattle.iso_transport.specs.Audience.{key_of}
use Rattle.iso_transport.specs.declared.key.IsoKey.{IsoKey}
use Rattle.iso_transport.specs.IsoRuns.{IsoPiece, iso_rules}
use Rattle.history.specs.Known.{Known, held_since}
use Rattle.history.specs.Settings.{Receiver}
use Rattle.history.specs.Traces.{NotedFrame, is_since, fast_piece, iso_piece, fast_trace, fast_trace_since, iso_trace, broadcast_since, addressed_since, is_transport, is_bearing}
use Rattle.history.specs.Opens.{is_fast, same_fast, precedes_fast, same_iso, precedes_iso, with_key, fast_keys, iso_keys, fast_open, iso_open, open_fast_keys, open_iso_keys, is_fast_admitted, is_iso_admitted, is_frame_admitted}
use Rattle.recordings.proofs.Places.{closed, closed_order}
use Rattle.recordings.proofs.Renumbered.{holder_as, known_as, since_as}

abbrev pub note_as : (ℕ → ℕ) → NotedFrame → NotedFrame
note_as f x = record x { index = f x.index }

-- no note is of the entry at n
abbrev pub AreApart : ℕ → List NotedFrame → Type 0
AreApart n notes = AllByRecursion (λ x. x.index ≢ n) notes

module _ (n : ℕ) {X : Type 0} (piece : NotedFrame → X) (p q : NotedFrame → Bool) (unseen : (x : NotedFrame) → piece (note_as (closed n) x) ≡ piece x)
    (same : (x : NotedFrame) → x.index ≢ n → p (note_as (closed n) x) ≡ q x) where
  pieces_as : (notes : List NotedFrame) → AreApart n notes → map piece (filter p (map (note_as (closed n)) notes)) ≡ map piece (filter q notes)
  pieces_as [] apart = refl
  pieces_as (x ∷ notes) apart = rw (same x apart.0) (by (q x) (pieces_as notes apart.1))
    where
      by : (b : Bool) → map piece (filter p (map (note_as (closed n)) notes)) ≡ map piece (filter q notes)
          → map piece (if b then note_as (closed n) x ∷ filter p (map (note_as (closed n)) notes) else filter p (map (note_as (closed n)) notes))
          ≡ map piece (if b then x ∷ filter q notes else filter q notes)
      by true rest =
          ap (λ (y : X). y ∷ map piece (filter p (map (note_as (closed n)) notes))) (unseen x)
          ∙ ap (λ (ys : List X). piece x ∷ ys) rest
      by false rest = rest

module _ (n : ℕ) where
  is_since_as : (source since : ℕ) (x : NotedFrame) → x.index ≢ n → is_since source (closed n since) (note_as (closed n) x) ≡ is_since source since x
  is_since_as source since x apart = ap (λ (b : Bool). (x.parts.source == source) && b) (closed_order n since x.index apart)

  fast_since_as : (since : Option ℕ) (source pgn : ℕ) (notes : List NotedFrame) → AreApart n notes
      → fast_trace_since (option_map (closed n) since) source pgn (map (note_as (closed n)) notes) ≡ fast_trace_since since source pgn notes
  fast_since_as None source pgn notes apart = refl
  fast_since_as (Some since) source pgn notes apart =
      pieces_as n fast_piece (λ x. is_since source (closed n since) x && (x.parts.pgn == pgn)) (λ x. is_since source since x && (x.parts.pgn == pgn)) (λ x. refl)
      (λ x other. ap (λ (b : Bool). b && (x.parts.pgn == pgn)) (is_since_as source since x other)) notes apart

  pub fast_trace_as : (holders : List (Option Holder)) (source pgn : ℕ) (notes : List NotedFrame) → AreApart n notes
      → fast_trace (map (holder_as (closed n)) holders) source pgn (map (note_as (closed n)) notes) ≡ fast_trace holders source pgn notes
  fast_trace_as holders source pgn notes apart =
      ap (λ (since : Option ℕ). fast_trace_since since source pgn (map (note_as (closed n)) notes)) (since_as (closed n) holders source)
      ∙ fast_since_as (held_since holders source) source pgn notes apart

  broadcast_as : (since : Option ℕ) (source : ℕ) (notes : List NotedFrame) → AreApart n notes
      → broadcast_since (option_map (closed n) since) source (map (note_as (closed n)) notes) ≡ broadcast_since since source notes
  broadcast_as None source notes apart = refl
  broadcast_as (Some since) source notes apart =
      pieces_as n iso_piece (λ x. is_since source (closed n since) x && ((x.parts.destination == 255) && is_bearing false x))
      (λ x. is_since source since x && ((x.parts.destination == 255) && is_bearing false x)) (λ x. refl)
      (λ x other. ap (λ (b : Bool). b && ((x.parts.destination == 255) && is_bearing false x)) (is_since_as source since x other)) notes apart

  addressed_as : (since own : Option ℕ) (own_since source : ℕ) (notes : List NotedFrame) → AreApart n notes
      → addressed_since (option_map (closed n) since) own (closed n own_since) source (map (note_as (closed n)) notes) ≡ addressed_since since own own_since source notes
  addressed_as None own own_since source notes apart = refl
  addressed_as (Some since) None own_since source notes apart = refl
  addressed_as (Some since) (Some own) own_since source notes apart =
      pieces_as n iso_piece (λ x. is_since source (closed n since) x && ((x.parts.destination == own) && (nat_le (closed n own_since) x.index && is_bearing true x)))
      (λ x. is_since source since x && ((x.parts.destination == own) && (nat_le own_since x.index && is_bearing true x))) (λ x. refl)
      (λ x other.
      ap (λ (b : Bool). b && ((x.parts.destination == own) && (nat_le (closed n own_since) (closed n x.index) && is_bearing true x))) (is_since_as source since x other)
      ∙ ap (λ (b : Bool). is_since source since x && ((x.parts.destination == own) && (b && is_bearing true x))) (closed_order n own_since x.index other))
      notes apart

  pub iso_trace_as : (k : Known) (addressed : Bool) (source : ℕ) (notes : List NotedFrame) → AreApart n notes
      → iso_trace (known_as (closed n) k) addressed source (map (note_as (closed n)) notes) ≡ iso_trace k addressed source notes
  iso_trace_as k false source notes apart =
      ap (λ (since : Option ℕ). broadcast_since since source (map (note_as (closed n)) notes)) (since_as (closed n) k.claims.holders source)
      ∙ broadcast_as (held_since k.claims.holders source) source notes apart
  iso_trace_as k true source notes apart =
      ap (λ (since : Option ℕ). addressed_since since k.claims.own (closed n k.own_since) source (map (note_as (closed n)) notes)) (since_as (closed n) k.claims.holders source)
      ∙ addressed_as (held_since k.claims.holders source) k.claims.own k.own_since source notes apart

  -- ---- what is open

  pub fast_open_as : (holders : List (Option Holder)) (notes : List NotedFrame) (key : FastKey) (m : ℕ) → AreApart n notes
      → fast_open (map (holder_as (closed n)) holders) (map (note_as (closed n)) notes) key m ≡ fast_open holders notes key m
  fast_open_as holders notes key m apart = ap (λ (t : List FastPiece). open_at fast_rules t m) (fast_trace_as holders key.source key.pgn notes apart)

  pub iso_open_as : (k : Known) (notes : List NotedFrame) (key : IsoKey) (m : ℕ) → AreApart n notes
      → iso_open (known_as (closed n) k) (map (note_as (closed n)) notes) key m ≡ iso_open k notes key m
  iso_open_as k notes key m apart = ap (λ (t : List IsoPiece). open_at (iso_rules key.addressed) t m) (iso_trace_as k key.addressed key.source notes apart)

-- ---- the keys

pub fast_keys_as : (f : ℕ → ℕ) (kinds : ℕ → Kind) (notes : List NotedFrame) → fast_keys kinds (map (note_as f) notes) ≡ fast_keys kinds notes
fast_keys_as f kinds [] = refl
fast_keys_as f kinds (x ∷ notes) =
    ap (λ (keys : List FastKey). if is_fast (kinds x.parts.pgn) then with_key same_fast precedes_fast (record { source = x.parts.source; pgn = x.parts.pgn }) keys else keys)
    (fast_keys_as f kinds notes)

pub iso_keys_as : (f : ℕ → ℕ) (notes : List NotedFrame) → iso_keys (map (note_as f) notes) ≡ iso_keys notes
iso_keys_as f [] = refl
iso_keys_as f (x ∷ notes) =
    ap (λ (keys : List IsoKey). if is_transport x.parts then with_key same_iso precedes_iso (key_of x.parts) keys else keys) (iso_keys_as f notes)

-- ---- room

module _ (n : ℕ) (notes : List NotedFrame) (apart : AreApart n notes) where
  open_fast_as : (kinds : ℕ → Kind) (holders : List (Option Holder)) (m : ℕ)
      → open_fast_keys kinds (map (holder_as (closed n)) holders) (map (note_as (closed n)) notes) m ≡ open_fast_keys kinds holders notes m
  open_fast_as kinds holders m =
      filter_agree (λ key. is_some (fast_open (map (holder_as (closed n)) holders) (map (note_as (closed n)) notes) key m))
      (λ key. is_some (fast_open holders notes key m)) (λ key. ap is_some (fast_open_as n holders notes key m apart)) (fast_keys kinds (map (note_as (closed n)) notes))
      ∙ ap (filter (λ key. is_some (fast_open holders notes key m))) (fast_keys_as (closed n) kinds notes)

  open_iso_as : (k : Known) (m : ℕ) → open_iso_keys (known_as (closed n) k) (map (note_as (closed n)) notes) m ≡ open_iso_keys k notes m
  open_iso_as k m =
      filter_agree (λ key. is_some (iso_open (known_as (closed n) k) (map (note_as (closed n)) notes) key m))
      (λ key. is_some (iso_open k notes key m)) (λ key. ap is_some (iso_open_as n k notes key m apart)) (iso_keys (map (note_as (closed n)) notes))
      ∙ ap (filter (λ key. is_some (iso_open k notes key m))) (iso_keys_as (closed n) notes)

  fast_room_as : (kinds : ℕ → Kind) (limit : ℕ) (holders : List (Option Holder)) (key : FastKey) (m : ℕ)
      → is_fast_admitted kinds limit (map (holder_as (closed n)) holders) (map (note_as (closed n)) notes) key m ≡ is_fast_admitted kinds limit holders notes key m
  fast_room_as kinds limit holders key m =
      ap (λ (keys : List FastKey). nat_lt (length (filter (λ other. not (same_fast other key)) keys)) limit) (open_fast_as kinds holders m)

  iso_room_as : (limit : ℕ) (k : Known) (key : IsoKey) (m : ℕ)
      → is_iso_admitted limit (known_as (closed n) k) (map (note_as (closed n)) notes) key m ≡ is_iso_admitted limit k notes key m
  iso_room_as limit k key m = ap (λ (keys : List IsoKey). nat_lt (length (filter (λ other. not (same_iso other key)) keys)) limit) (open_iso_as k m)

  pub room_as : (r : Receiver) (k : Known) (p : Parts) (m : ℕ)
      → is_frame_admitted r (known_as (closed n) k) (map (note_as (closed n)) notes) p m ≡ is_frame_admitted r k notes p m
  room_as r k p m =
      ap (λ (b : Bool). if is_transport p then b
      else is_fast_admitted r.kinds r.fast_slots (map (holder_as (closed n)) k.claims.holders) (map (note_as (closed n)) notes) (record { source = p.source; pgn = p.pgn }) m)
      (iso_room_as r.iso_slots k (key_of p) m)
      ∙ ap (λ (b : Bool). if is_transport p then is_iso_admitted r.iso_slots k notes (key_of p) m else b)
      (fast_room_as r.kinds r.fast_slots k.claims.holders (record { source = p.source; pgn = p.pgn }) m)
