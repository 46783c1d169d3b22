-- The sessions that are kept after a whole history of a gateway's bus (ISO 11783-3): what is overdue ends before each entry, and each entry
-- makes of them what it is.
use Rattle.std.specs.Prelude.{ℕ, ◌≤◌, [], ◌∷◌, length, None, if◌then◌else◌}
use Rattle.std.specs.declared.cmp.Ordering.{Ordering}
use Rattle.n2k_id.specs.Frame.{BusFrame}
use Rattle.n2k_id.specs.Identifier.{parts_of}
use Rattle.claim_table.specs.Claims.{claim, is_ready}
use Rattle.slot_views.specs.Slots.{SlotMap}
use Rattle.slot_views.specs.Traces.{unexpired}
use Rattle.iso_transport.specs.declared.key.IsoKey.{IsoKey}
use Rattle.history.specs.Entries.{Entry, History, IsHistory, moment_of, now, frame, datagram, tick, command}
use Rattle.history.specs.Settings.{Receiver}
use Rattle.history.specs.Known.{known, is_claim, claim_by, address_left, address_won}
use Rattle.history.specs.Meanings.{is_of_session}
use Rattle.history.specs.FromBus.{meaning_at}
use Rattle.history.specs.AddressLaws.{IsReceiver}
use Rattle.gate_model.specs.Orders.{OrdersIso}
use Rattle.gate_model.specs.Sessions.{session_step, sessions_kept}
use Rattle.gate_model.specs.SessionLaws.{StandsFor, is_moved}

module _ (cmp : IsoKey → IsoKey → Ordering) (r : Receiver) (s : ℕ) where
  -- what a frame makes of the sessions, by what it is
  abbrev pub after_frame : History → ℕ → BusFrame → SlotMap IsoKey → SlotMap IsoKey
  after_frame h m f slots =
      if is_claim f
      then (let step = (claim (known r s h).claims (claim_by (length h) m f)).step in
      sessions_kept (address_left step) (address_won step) (is_moved r s h (frame m f)) slots)
      else if is_of_session (meaning_at r s h m f)
      then (session_step cmp slots (known r s h).claims.own (parts_of f.id) f.held m (is_ready (known r s h).claims m)).slots
      else slots

  abbrev pub after_entry : History → Entry → SlotMap IsoKey → SlotMap IsoKey
  after_entry h (frame m f) slots = after_frame h m f slots
  after_entry h (datagram m bytes) slots = slots
  after_entry h (tick m) slots = slots
  after_entry h (command m source address) slots = sessions_kept None None (is_moved r s h (command m source address)) slots

  -- after the last entry of a history
  unfoldable pub sessions_of : History → SlotMap IsoKey
  sessions_of [] = record { limit = r.iso_slots; entries = [] }
  sessions_of (e ∷ h) = after_entry h e (unexpired (moment_of e) (sessions_of h))

-- at each moment from the last entry on, what hasn't expired of them stands for the history
abbrev pub AllSessionsStand : Type 0
AllSessionsStand =
    (cmp : IsoKey → IsoKey → Ordering) → OrdersIso cmp → (r : Receiver) (s : ℕ) (h : History) (m : ℕ) → IsReceiver r → IsHistory h → now h ≤ m
    → StandsFor cmp r s h m (unexpired m (sessions_of cmp r s h))
