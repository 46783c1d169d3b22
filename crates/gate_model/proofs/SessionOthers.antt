-- Entries that bear on no session leave what is kept of the sessions.
use Rattle.std.proofs.Common.{◌≡◌, ℕ, Bool, true, false, ◌∷◌, refl, sym, ap, ◌∙◌}
use Rattle.std.specs.declared.cmp.Ordering.{Ordering}
use Rattle.std.proofs.lemmas.Bool.{false≢true}
use Rattle.n2k_id.specs.Frame.{BusFrame}
use Rattle.slot_views.specs.Slots.{SlotMap}
use Rattle.iso_transport.specs.declared.key.IsoKey.{IsoKey}
use Rattle.iso_transport.specs.RunVerdicts.{assembly_at}
use Rattle.history.specs.Entries.{History, frame}
use Rattle.history.specs.Settings.{Receiver}
use Rattle.history.specs.Known.{known, is_claim}
use Rattle.history.specs.Meanings.{is_of_session}
use Rattle.history.specs.FromBus.{meaning_at}
use Rattle.history.specs.AddressLaws.{IsReceiver}
use Rattle.history.specs.KeyLaws.{concerns, the_note}
use Rattle.history.proofs.Addresses.{addresses_are_sound}
use Rattle.history.proofs.SessionSteps.{iso_steps}
use Rattle.gate_model.specs.SessionLaws.{StandsFor, OthersLeaveSessions, DatagramsLeaveSessions, TicksLeaveSessions}
use Rattle.gate_model.proofs.SessionMeanings.{bearing_meant}

module _ (cmp : IsoKey → IsoKey → Ordering) (r : Receiver) (s : ℕ) (h : History) (m moment : ℕ) (f : BusFrame) (slots : SlotMap IsoKey) (are : IsReceiver r) (other : is_claim f ≡ false)
    (stands : StandsFor cmp r s h m slots) where
  pub unconcerned : ((key : IsoKey) → concerns (known r s h).claims (the_note r s h moment f) key ≡ false) → StandsFor cmp r s (frame moment f ∷ h) m slots
  unconcerned none = record {
    limited = stands.limited;
    map = stands.map;
    entries = λ key. stands.entries key ∙ ap (assembly_at key.addressed) (sym ((iso_steps r s h moment f are other).left key m ∙ rw (none key) refl));
  }

  pub others : is_of_session (meaning_at r s h moment f) ≡ false → StandsFor cmp r s (frame moment f ∷ h) m slots
  others passes = unconcerned (λ key. by key (concerns (known r s h).claims (the_note r s h moment f) key) refl)
    where
      by : (key : IsoKey) (b : Bool) → concerns (known r s h).claims (the_note r s h moment f) key ≡ b → concerns (known r s h).claims (the_note r s h moment f) key ≡ false
      by key false e = e
      by key true e =
          absurd (false≢true (sym passes ∙ bearing_meant r.kinds (known r s h) (addresses_are_sound r s h are).sound (the_note r s h moment f) key e))

pub others_leave_sessions : OthersLeaveSessions
others_leave_sessions cmp r s h m moment f slots are other passes stands = others cmp r s h m moment f slots are other stands passes

pub datagrams_leave_sessions : DatagramsLeaveSessions
datagrams_leave_sessions cmp r s h m moment bytes slots stands = record { limited = stands.limited; map = stands.map; entries = stands.entries }

pub ticks_leave_sessions : TicksLeaveSessions
ticks_leave_sessions cmp r s h m moment slots stands = record { limited = stands.limited; map = stands.map; entries = stands.entries }
