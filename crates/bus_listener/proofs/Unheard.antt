-- An event that isn't a frame of a message changes only what is open of addresses that change hands.
use Rattle.std.proofs.Common.{◌≡◌, ℕ, false, List, refl, ap, append-nil}
use Rattle.std.specs.Prelude.{None}
use Rattle.std.specs.declared.cmp.Ordering.{Ordering}
use Rattle.slot_views.specs.Slots.{SlotMap}
use Rattle.fast_packet.specs.declared.key.FastKey.{FastKey}
use Rattle.gate_events.specs.Emit.{Emit}
use Rattle.pgn_profile.specs.declared.kinds.Kind.{Kind}
use Rattle.history.specs.Entries as entry
use Rattle.history.specs.Entries.{Entry}
use Rattle.gate_model.specs.Addresses.{AddressesKept}
use Rattle.bus_listener.specs.Kept.{Hearing, entered, given_up, lost, may_complete, unheard}

module _ (cmp : FastKey → FastKey → Ordering) (kinds : ℕ → Kind) (g : AddressesKept) (slots : SlotMap FastKey) where
  abbrev with_told : List Emit → Hearing
  with_told told = record { slots = given_up g.changed slots; told = told; message = None }

  pub passes : (e : Entry) → may_complete kinds e ≡ false → entered cmp kinds g slots e ≡ unheard g slots e
  unfolding entered
  passes (entry.frame m f) never = rw never (ap with_told (append-nil (lost g.changed slots)))
  passes (entry.datagram m bytes) never = refl
  passes (entry.tick m) never = refl
  passes (entry.command m source address) never = refl

  pub completes_nothing : (e : Entry) → may_complete kinds e ≡ false → (entered cmp kinds g slots e).message ≡ None
  unfolding entered
  completes_nothing (entry.frame m f) never = rw never refl
  completes_nothing (entry.datagram m bytes) never = refl
  completes_nothing (entry.tick m) never = refl
  completes_nothing (entry.command m source address) never = refl
