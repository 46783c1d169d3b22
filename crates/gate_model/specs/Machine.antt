-- What a gateway keeps, as plain values, and how time passes over it. Nothing here speaks of what came before.
use Rattle.std.specs.Prelude.{ℕ, List, [], ◌++◌, Option}
use Rattle.std.specs.declared.cmp.Ordering.{Ordering}
use Rattle.slot_views.specs.Slots.{SlotMap}
use Rattle.slot_views.specs.Traces.{unexpired}
use Rattle.claim_table.specs.Claims.{started}
use Rattle.fast_packet.specs.declared.key.FastKey.{FastKey}
use Rattle.iso_transport.specs.declared.key.IsoKey.{IsoKey}
use Rattle.tag_block.specs.declared.group_key.GroupKey.{GroupKey}
use Rattle.history.specs.Settings.{Settings, receiver_of}
use Rattle.gate_events.specs.Emit.{Emit}
use Rattle.gate_model.specs.Endings.{fast_overdue, sessions_overdue, groups_overdue}
use Rattle.gate_model.specs.Addresses.{AddressesKept, Changed, addresses_at_start, counted}
use Rattle.gate_model.specs.Said.{SaidKept, Complete, nothing_said}
use Rattle.gate_model.specs.NetLines.{NetKept, nothing_kept, kept_until}

-- how the keys of what is in the making are compared
pub record Compared : Type 0 where
  pub fast : FastKey → FastKey → Ordering
  pub sessions : IsoKey → IsoKey → Ordering
  pub groups : GroupKey → GroupKey → Ordering

pub record Machine : Type 0 where
  pub settings : Settings
  pub addresses : AddressesKept
  -- the moment of the last entry
  pub moment : ℕ
  pub fast : SlotMap FastKey
  pub sessions : SlotMap IsoKey
  pub said : SaidKept
  pub network : NetKept

-- before the start
abbrev pub opened_machine : Settings → Machine
opened_machine c = record {
  settings = c;
  addresses = addresses_at_start (receiver_of c) 0;
  moment = 0;
  fast = record { limit = c.fast_slots; entries = [] };
  sessions = record { limit = c.iso_slots; entries = [] };
  said = nothing_said c;
  network = nothing_kept c;
}

-- readiness is counted from the start
abbrev pub started_at : ℕ → Machine → Machine
started_at s g = record g { addresses = record g.addresses { claims = started g.addresses.claims s } }

-- ---- time

-- at a later moment, where all that is overdue has ended
abbrev pub later : ℕ → Machine → Machine
later m g = record g { moment = m; fast = unexpired m g.fast; sessions = unexpired m g.sessions; network = kept_until m g.network }

-- and what is overdue is told
abbrev pub overdue : ℕ → Machine → List Emit
overdue m g = fast_overdue g.fast m ++ sessions_overdue g.addresses.claims.own g.sessions m ++ groups_overdue g.network.groups m

-- ---- what an entry makes of it and gives

pub record Step : Type 0 where
  pub after : Machine
  -- what it tells, in this order
  pub told : List Emit
  -- and behind it, where a message is selected that it completes, the datagram in which that is said
  pub posted : List Emit
  -- the message that it completes
  pub complete : Option Complete

abbrev pub gives : Step → List Emit
gives x = x.told ++ x.posted

-- one more entry has come, by which these addresses changed hands
abbrev pub counted_in : Changed → Machine → Machine
counted_in changed g = record g { addresses = record g.addresses { count = counted g.addresses.count; changed = changed } }
