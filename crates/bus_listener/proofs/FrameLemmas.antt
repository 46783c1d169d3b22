-- What a frame breaks and completes that comes from nobody, or is a message by itself.
use Rattle.std.proofs.Common.{◌≡◌, ℕ, min, ◌∷◌, [], length, Option, Some, None, refl, ap, ◌∙◌}
use Rattle.report_rules.specs.Rules as rules
use Rattle.n2k_id.specs.Frame.{BusFrame}
use Rattle.n2k_id.specs.Identifier.{parts_of}
use Rattle.n2k_id.specs.declared.identifier_parts.Parts.{Parts}
use Rattle.claim_table.specs.Claims.{holder_at}
use Rattle.claim_table.specs.Laws.{capped}
use Rattle.claim_table.specs.declared.answer.Holder.{Holder}
use Rattle.history.specs.AddressLaws.{IsReceiver}
use Rattle.history.specs.Emits.{report_of}
use Rattle.history.specs.Entries.{History, frame}
use Rattle.history.specs.FromBus.{frame_refused, meaning_at}
use Rattle.history.specs.Known.{known}
use Rattle.history.specs.Meanings.{from_nobody, is_of_fast_packet, is_of_session, single}
use Rattle.history.specs.Messages.{carried, done, said_by}
use Rattle.history.specs.Settings.{Receiver}
use Rattle.gate_model.specs.AddressStands.{FrameIsTold, StandsAddresses, changes_in}
use Rattle.gate_model.specs.Addresses.{AddressesKept, last_index, plain_done, plain_reports}
use Rattle.gate_model.specs.FastPackets.{sender_of}
use Rattle.gate_model.specs.Said.{short_reports}
use Rattle.gate_model.proofs.AddressTells.{standing_tells_alike}
use Rattle.gate_model.proofs.AddressFrames.{frames_are_told}

-- what is kept of the addresses where all is known of them
abbrev kept_for : Receiver → ℕ → History → AddressesKept
kept_for r s h = record { claims = capped last_index (known r s h).claims; count = min last_index (length h); changed = changes_in r s h }

no_message : (index m source : ℕ) (o : Option Holder) → said_by index m source o None ≡ None
no_message index m source None = refl
no_message index m source (Some x) = refl

module _ (r : Receiver) (s : ℕ) (h : History) (m : ℕ) (f : BusFrame) (are : IsReceiver r) where
  abbrev p : Parts
  p = parts_of f.id

  abbrev k : AddressesKept
  k = kept_for r s h

  stands : StandsAddresses r s h k
  stands = record { claims = refl; count = refl; changed = refl }

  -- ---- from nobody

  module _ (is : meaning_at r s h m f ≡ from_nobody) where
    nobody_told : FrameIsTold r s h m f k
    nobody_told = frames_are_told r s h m f k are stands (ap is_of_session is) (ap is_of_fast_packet is)

    pub nobody_refused : frame_refused r s h m f ≡ report_of rules.unclaimed (sender_of p) ∷ []
    nobody_refused = nobody_told.reports ∙ ap (λ what. plain_reports r.name what p f.held) (nobody_told.meaning ∙ is)

    pub nobody_done : done r s h (frame m f) ≡ None
    nobody_done =
        nobody_told.completed
        ∙ (ap (λ what. said_by (length h) m p.source (holder_at k.claims.holders p.source) (plain_done what p f.held)) (nobody_told.meaning ∙ is)
        ∙ no_message (length h) m p.source (holder_at k.claims.holders p.source))

  -- ---- a message by itself

  module _ (is : meaning_at r s h m f ≡ single) where
    single_told : FrameIsTold r s h m f k
    single_told = frames_are_told r s h m f k are stands (ap is_of_session is) (ap is_of_fast_packet is)

    pub single_refused : frame_refused r s h m f ≡ short_reports p.source (Some (carried p.pgn f.held))
    single_refused = single_told.reports ∙ ap (λ what. plain_reports r.name what p f.held) (single_told.meaning ∙ is)

    pub single_done : done r s h (frame m f)
        ≡ said_by (length h) m p.source (holder_at (known r s h).claims.holders p.source) (Some (carried p.pgn f.held))
    single_done =
        single_told.completed
        ∙ (ap (λ what. said_by (length h) m p.source (holder_at k.claims.holders p.source) (plain_done what p f.held)) (single_told.meaning ∙ is)
        ∙ (standing_tells_alike r s h k stands).said (length h) m p.source (Some (carried p.pgn f.held)))
