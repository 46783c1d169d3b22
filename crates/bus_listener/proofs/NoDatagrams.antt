-- What a listener tells is never for the network.
use Rattle.std.proofs.Common.{◌≡◌, ℕ, List, [], ◌∷◌, ◌++◌, length, refl, arith}
use Rattle.std.specs.Prelude.{Option, Some, None}
use Rattle.n2k_id.specs.Frame.{BusFrame}
use Rattle.pgn_profile.specs.declared.kinds.Kind.{Kind}
use Rattle.history.specs.Entries.{Entry, History, frame, datagram, tick, command, now}
use Rattle.history.specs.EntryLaws.{nets_in}
use Rattle.history.specs.Endings.{fast_lost_at, side, Side}
use Rattle.history.specs.Emits.{reported}
use Rattle.history.specs.Known.{known, address_left, address_won, claim_by, is_claim}
use Rattle.history.specs.Opens.{notes_of}
use Rattle.history.specs.Settings.{Settings}
use Rattle.history.specs.Traces.{NotedFrame}
use Rattle.history.proofs.EntrySteps.{if_none, no_fast_expired, no_flat, no_reports, none}
use Rattle.claim_table.specs.Claims.{claim}
use Rattle.claim_table.specs.declared.answer.ClaimStep.{ClaimStep}
use Rattle.bus_listener.specs.Heard.{claim_loses, heard_expired, heard_out, heard_refused, listener, step_loses}

module _ (before after : Side) (notes : List NotedFrame) (kinds : ℕ → Kind) where
  no_lost : (a : Option ℕ) → nets_in (fast_lost_at before after notes kinds a) ≡ []
  no_lost None = refl
  no_lost (Some a) = grind (arith, no_flat)

module _ (kinds : ℕ → Kind) (slots : ℕ) (c : Settings) (s : ℕ) (h : History) where
  no_expired : (m : ℕ) → nets_in (heard_expired kinds slots c s h m) ≡ []
  no_expired m = no_fast_expired (known (listener kinds slots c) s h) (notes_of (listener kinds slots c) s h) (now h) m kinds

  no_step : (e : Entry) (m : ℕ) (step : ClaimStep) → nets_in (step_loses kinds slots c s h e m step) ≡ []
  no_step e m step =
      let r = listener kinds slots c in
      let before = side (known r s h) m in
      let after = side (known r s (e ∷ h)) m in
      let notes = notes_of r s h in
      none (fast_lost_at before after notes kinds (address_left step)) (fast_lost_at before after notes kinds (address_won step))
      (no_lost before after notes kinds (address_left step)) (no_lost before after notes kinds (address_won step))

  no_claim : (m : ℕ) (f : BusFrame) → nets_in (claim_loses kinds slots c s h m f) ≡ []
  no_claim m f =
      let step = (claim (known (listener kinds slots c) s h).claims (claim_by (length h) m f)).step in
      if_none (is_claim f) (step_loses kinds slots c s h (frame m f) m step) [] (no_step (frame m f) m step) refl

  no_told : (m : ℕ) (f : BusFrame) → nets_in (claim_loses kinds slots c s h m f ++ reported (heard_refused kinds slots c s h m f)) ≡ []
  no_told m f =
      none (claim_loses kinds slots c s h m f) (reported (heard_refused kinds slots c s h m f)) (no_claim m f) (no_reports (heard_refused kinds slots c s h m f))

  pub no_heard : (e : Entry) → nets_in (heard_out kinds slots c s h e) ≡ []
  no_heard (frame m f) =
      none (heard_expired kinds slots c s h m) (claim_loses kinds slots c s h m f ++ reported (heard_refused kinds slots c s h m f)) (no_expired m) (no_told m f)
  no_heard (datagram m bytes) = no_expired m
  no_heard (tick m) = no_expired m
  no_heard (command m source address) = refl
