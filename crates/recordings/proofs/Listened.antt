-- What is told and completed of messages that a listener hears beside the gateway is the same with a tick before it and without it.
use Rattle.std.proofs.Common.{◌≡◌, ℕ, ◌≤◌, Bool, true, false, ◌&&◌, List, [], ◌∷◌, ◌++◌, length, refl, sym, ap, ◌∙◌}
use Rattle.std.specs.Prelude.{Option, None, option_map, if◌then◌else◌}
use Rattle.n2k_id.specs.Frame.{BusFrame}
use Rattle.n2k_id.specs.Identifier.{parts_of}
use Rattle.claim_table.specs.Claims.{claim}
use Rattle.claim_table.specs.declared.answer.ClaimStep.{ClaimStep}
use Rattle.pgn_profile.specs.declared.kinds.Kind.{Kind}
use Rattle.gate_events.specs.Emit.{Emit}
use Rattle.gate_events.specs.declared.emit.Report.{Report}
use Rattle.history.specs.Emits.{reported}
use Rattle.history.specs.Endings.{fast_lost_at, side}
use Rattle.history.specs.Entries.{Entry, History, frame, datagram, tick, moment_of, now}
use Rattle.history.specs.Entries as entry
use Rattle.history.specs.FromBus.{frame_refused}
use Rattle.history.specs.Known.{Known, address_left, address_won, claim_by, is_claim, known}
use Rattle.history.specs.Messages.{Message, done}
use Rattle.history.specs.Opens.{notes_of}
use Rattle.history.specs.Settings.{Settings}
use Rattle.history.specs.Traces.{NotedFrame}
use Rattle.bus_listener.specs.Heard.{claim_loses, heard_done, heard_expired, heard_out, heard_refused, hears, is_heard, listener, step_loses}
use Rattle.bus_listener.specs.Kinds.{is_told}
use Rattle.recordings.proofs.Places.{closed, place_of}
use Rattle.recordings.proofs.Renumbered.{known_as, step_as}
use Rattle.recordings.proofs.Known.{known_without}
use Rattle.recordings.proofs.Noted.{message_as, notes_apart, notes_without}
use Rattle.recordings.proofs.Messages.{done_without}
use Rattle.recordings.proofs.Gathered.{ap₃, joined}
use Rattle.recordings.proofs.Endings.{fast_lost_at_as}
use Rattle.recordings.proofs.Overdue.{fast_idle, listened_later}
use Rattle.recordings.proofs.Out.{refused_without}

module _ (kinds : ℕ → Kind) (slots : ℕ) (c : Settings) (s m : ℕ) (h newer : History) where
  heard_as : (t : ℕ) (f : BusFrame) → hears kinds slots c s (newer ++ h) f ≡ hears kinds slots c s (newer ++ tick m ∷ h) f
  heard_as t f = ap (λ (k : Known). is_heard kinds k.claims.own (parts_of f.id)) (known_without (listener kinds slots c) s m h newer)

  pub heard_done_without : (e : Entry)
      → heard_done kinds slots c s (newer ++ h) e ≡ option_map (message_as (closed (length h))) (heard_done kinds slots c s (newer ++ tick m ∷ h) e)
  heard_done_without (frame t f) =
      let r = listener kinds slots c in
      ap (λ (b : Bool). if b then done r s (newer ++ h) (frame t f) else None) (heard_as t f)
      ∙ ap (λ (d : Option Message). if hears kinds slots c s (newer ++ tick m ∷ h) f then d else None) (done_without r s m h newer (frame t f))
      ∙ by (hears kinds slots c s (newer ++ tick m ∷ h) f) (done r s (newer ++ tick m ∷ h) (frame t f))
    where
      by : (b : Bool) (d : Option Message)
          → (if b then option_map (message_as (closed (length h))) d else None) ≡ option_map (message_as (closed (length h))) (if b then d else None)
      by true d = refl
      by false d = refl
  heard_done_without (datagram t bytes) = refl
  heard_done_without (tick t) = refl
  heard_done_without (entry.command t source address) = refl

  -- ---- addresses that change hands

  step_loses_without : (e : Entry) (t : ℕ) (step : ClaimStep) → step_loses kinds slots c s (newer ++ h) e t step ≡ step_loses kinds slots c s (newer ++ tick m ∷ h) e t step
  step_loses_without e t step =
      let r = listener kinds slots c in
      let n = length h in
      let with_it = newer ++ tick m ∷ h in
      let before = side (known r s with_it) t in
      let after = side (known r s (e ∷ with_it)) t in
      let notes = notes_of r s with_it in
      ap₃ (λ (k : Known) (k' : Known) (notes : List NotedFrame).
      fast_lost_at (side k t) (side k' t) notes kinds (address_left step) ++ fast_lost_at (side k t) (side k' t) notes kinds (address_won step))
      (known_without r s m h newer) (known_without r s m h (e ∷ newer)) (notes_without r s m h newer)
      ∙ joined (fast_lost_at_as n notes (notes_apart r s m h newer) before after kinds (address_left step))
      (fast_lost_at_as n notes (notes_apart r s m h newer) before after kinds (address_won step))

  step_without : (t : ℕ) (f : BusFrame)
      → (claim (known (listener kinds slots c) s (newer ++ h)).claims (claim_by (length (newer ++ h)) t f)).step
      ≡ (claim (known (listener kinds slots c) s (newer ++ tick m ∷ h)).claims (claim_by (length (newer ++ tick m ∷ h)) t f)).step
  step_without t f =
      let r = listener kinds slots c in
      ap (λ (k : Known). (claim k.claims (claim_by (length (newer ++ h)) t f)).step) (known_without r s m h newer)
      ∙ ap (λ (i : ℕ). (claim (known_as (closed (length h)) (known r s (newer ++ tick m ∷ h))).claims (claim_by i t f)).step) (sym (place_of newer m h))
      ∙ step_as (closed (length h)) (length (newer ++ tick m ∷ h)) (known r s (newer ++ tick m ∷ h)) t f

  claim_loses_without : (t : ℕ) (f : BusFrame) → claim_loses kinds slots c s (newer ++ h) t f ≡ claim_loses kinds slots c s (newer ++ tick m ∷ h) t f
  claim_loses_without t f =
      ap (λ (step : ClaimStep). if is_claim f then step_loses kinds slots c s (newer ++ h) (frame t f) t step else []) (step_without t f)
      ∙ ap (λ (es : List Emit). if is_claim f then es else [])
      (step_loses_without (frame t f) t (claim (known (listener kinds slots c) s (newer ++ tick m ∷ h)).claims (claim_by (length (newer ++ tick m ∷ h)) t f)).step)

  -- ---- all that is told, where what is overdue is

  heard_refused_without : (t : ℕ) (f : BusFrame) → heard_refused kinds slots c s (newer ++ h) t f ≡ heard_refused kinds slots c s (newer ++ tick m ∷ h) t f
  heard_refused_without t f =
      let r = listener kinds slots c in
      ap (λ (b : Bool). if b && is_told (parts_of f.id).pgn then frame_refused r s (newer ++ h) t f else []) (heard_as t f)
      ∙ ap (λ (rs : List Report). if hears kinds slots c s (newer ++ tick m ∷ h) f && is_told (parts_of f.id).pgn then rs else []) (refused_without r s m h newer t f)

  pub heard_out_without : (e : Entry) → heard_expired kinds slots c s (newer ++ h) (moment_of e) ≡ heard_expired kinds slots c s (newer ++ tick m ∷ h) (moment_of e)
      → heard_out kinds slots c s (newer ++ h) e ≡ heard_out kinds slots c s (newer ++ tick m ∷ h) e
  heard_out_without (frame t f) overdue =
      joined overdue (joined (claim_loses_without t f) (ap reported (heard_refused_without t f)))
  heard_out_without (datagram t bytes) overdue = overdue
  heard_out_without (tick t) overdue = overdue
  heard_out_without (entry.command t source address) overdue = refl

-- ---- what is overdue: since an entry that came after the tick, or since the tick, where nothing was overdue at it

module _ (kinds : ℕ → Kind) (slots : ℕ) (c : Settings) (s m : ℕ) (h : History) where
  pub heard_later : (e : Entry) (newer : History) (t : ℕ) → heard_expired kinds slots c s (e ∷ newer ++ h) t ≡ heard_expired kinds slots c s (e ∷ newer ++ tick m ∷ h) t
  heard_later e newer t = listened_later (listener kinds slots c) s m h e newer t

  pub heard_first_later : now h ≤ m → heard_expired kinds slots c s h m ≡ [] → (t : ℕ) → heard_expired kinds slots c s h t ≡ heard_expired kinds slots c s (tick m ∷ h) t
  heard_first_later le none t = let r = listener kinds slots c in fast_idle (known r s h) (notes_of r s h) (now h) m t le kinds none
