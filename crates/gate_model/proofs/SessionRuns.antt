-- The sessions that are kept after a whole history stand for it.
use Rattle.std.proofs.Common.{◌≡◌, ℕ, ◌≤◌, Bool, true, false, [], ◌∷◌, length, refl, arith}
use Rattle.std.specs.Prelude.{if◌then◌else◌}
use Rattle.std.specs.declared.cmp.Ordering.{Ordering}
use Rattle.n2k_id.specs.Frame.{BusFrame}
use Rattle.n2k_id.specs.Identifier.{parts_of}
use Rattle.claim_table.specs.Claims.{claim, is_ready}
use Rattle.slot_views.specs.Slots.{SlotMap}
use Rattle.slot_views.specs.Traces.{unexpired}
use Rattle.iso_transport.specs.declared.key.IsoKey.{IsoKey}
use Rattle.history.specs.Entries as entry
use Rattle.history.specs.Entries.{Entry, History, IsHistory, moment_of, now}
use Rattle.history.specs.Settings.{Receiver}
use Rattle.history.specs.Known.{known, is_claim, claim_by, address_left, address_won}
use Rattle.history.specs.Meanings.{Meaning, transport, is_of_session}
use Rattle.history.specs.Meanings as meanings
use Rattle.history.specs.FromBus.{meaning_at}
use Rattle.history.specs.AddressLaws.{IsReceiver}
use Rattle.gate_model.specs.Orders.{OrdersIso}
use Rattle.gate_model.specs.Sessions.{session_step, sessions_kept}
use Rattle.gate_model.specs.SessionLaws.{StandsFor, is_moved}
use Rattle.gate_model.specs.SessionRuns.{after_frame, after_entry, sessions_of, AllSessionsStand}
use Rattle.gate_model.proofs.SessionTimes.{nothing_stands, time_ends_sessions}
use Rattle.gate_model.proofs.SessionLosses.{claims_give_up, commands_give_up}
use Rattle.gate_model.proofs.SessionOthers.{others_leave_sessions, datagrams_leave_sessions, ticks_leave_sessions}
use Rattle.gate_model.proofs.SessionFrames.{session_frames_stand}

-- a frame is one of a session in one way
of_session : (meaning : Meaning) → is_of_session meaning ≡ true → meaning ≡ transport
of_session meanings.address_claim e = cc
of_session meanings.own_source e = cc
of_session meanings.request e = cc
of_session meanings.from_nobody e = cc
of_session meanings.transport e = refl
of_session meanings.single e = cc
of_session meanings.fast_packet e = cc
of_session meanings.passed e = cc

module _ (cmp : IsoKey → IsoKey → Ordering) (orders : OrdersIso cmp) (r : Receiver) (s : ℕ) (are : IsReceiver r) where
  frame_stands : (h : History) (m : ℕ) (f : BusFrame) (slots : SlotMap IsoKey) → IsHistory (entry.frame m f ∷ h) → StandsFor cmp r s h m slots
      → StandsFor cmp r s (entry.frame m f ∷ h) m (after_frame cmp r s h m f slots)
  frame_stands h m f slots is stands = by (is_claim f) refl (is_of_session (meaning_at r s h m f)) refl
    where
      by : (c : Bool) → is_claim f ≡ c → (t : Bool) → is_of_session (meaning_at r s h m f) ≡ t
          → StandsFor cmp r s (entry.frame m f ∷ h) m
          (if c
          then sessions_kept (address_left (claim (known r s h).claims (claim_by (length h) m f)).step) (address_won (claim (known r s h).claims (claim_by (length h) m f)).step) (is_moved r s h (entry.frame m f)) slots
          else if t then (session_step cmp slots (known r s h).claims.own (parts_of f.id) f.held m (is_ready (known r s h).claims m)).slots else slots)
      by true claims t et = (claims_give_up cmp orders r s h m f slots are is.2 claims stands).stands
      by false other true session =
          (session_frames_stand cmp orders r s h m f slots are is (of_session (meaning_at r s h m f) session) stands).stands
      by false other false passes = others_leave_sessions cmp r s h m m f slots are other passes stands

  entry_stands : (h : History) (e : Entry) (slots : SlotMap IsoKey) → IsHistory (e ∷ h) → StandsFor cmp r s h (moment_of e) slots
      → StandsFor cmp r s (e ∷ h) (moment_of e) (after_entry cmp r s h e slots)
  entry_stands h (entry.frame m f) slots is stands = frame_stands h m f slots is stands
  entry_stands h (entry.datagram m bytes) slots is stands = datagrams_leave_sessions cmp r s h m m bytes slots stands
  entry_stands h (entry.tick m) slots is stands = ticks_leave_sessions cmp r s h m m slots stands
  entry_stands h (entry.command m source address) slots is stands = (commands_give_up cmp orders r s h m source address slots are is.2 stands).stands

  -- no entry is earlier than the last one
  timely : (h : History) (e : Entry) → IsHistory (e ∷ h) → now h ≤ moment_of e
  timely h (entry.frame m f) is = is.1
  timely h (entry.datagram m bytes) is = is.1
  timely h (entry.tick m) is = is.1
  timely h (entry.command m source address) is = let same = is.1 in omega (arith, same)

  kept_stands : (h : History) → IsHistory h → StandsFor cmp r s h (now h) (sessions_of cmp r s h)
  unfolding sessions_of
  kept_stands [] is = nothing_stands cmp r s 0
  kept_stands (e ∷ h) is =
      entry_stands h e (unexpired (moment_of e) (sessions_of cmp r s h)) is
      (time_ends_sessions cmp orders r s h (now h) (moment_of e) (sessions_of cmp r s h) are is.2 (timely h e is) (kept_stands h is.2)).stands

pub all_sessions_stand : AllSessionsStand
all_sessions_stand cmp orders r s h m are is le =
    (time_ends_sessions cmp orders r s h (now h) m (sessions_of cmp r s h) are is le (kept_stands cmp orders r s are h is)).stands
