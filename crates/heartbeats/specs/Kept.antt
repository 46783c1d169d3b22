-- What is kept of heartbeats, and what an event makes of it and gives.
use Rattle.std.specs.Prelude.{◌≡◌, ℕ, ◌+◌, Bool, ◌&&◌, nat_lt, List, [], ◌∷◌, if◌then◌else◌}
use Rattle.claim_table.specs.Claims.{Claims, is_ready}
use Rattle.gate_events.specs.Emit.{Emit}
use Rattle.history.specs.Entries.{History, now}
use Rattle.history.specs.Settings.{Settings}
use Rattle.settings.specs.declared.heartbeat.NetHeartbeat.{NetHeartbeat}
use Rattle.heartbeats.specs.BeatOut.{beat_from, beats_before, hbt_before, hbt_emit}
use Rattle.heartbeats.specs.Due.{due_by, last_due}

-- ---- on the network

pub record NetKept : Type 0 where
  pub config : NetHeartbeat
  -- the system function identifier by which the gateway speaks
  pub sfi : List ℕ
  -- how many were due up to the last event, and how many there were
  pub due : ℕ
  pub count : ℕ

abbrev pub net_opened : NetHeartbeat → List ℕ → NetKept
net_opened n sfi = record { config = n; sfi = sfi; due = 0; count = 0 }

-- at a moment of a gateway that started then
module _ (s m : ℕ) where
  abbrev pub net_passes : NetKept → Bool
  net_passes k = nat_lt k.due (due_by k.config.every_s s m)

  abbrev pub net_after : NetKept → NetKept
  net_after k = if net_passes k then record k { due = due_by k.config.every_s s m; count = k.count + 1 } else k

  abbrev pub net_posts : Bool → NetKept → List Emit
  net_posts is_well k = if net_passes k then hbt_emit k.config k.sfi is_well k.count ∷ [] else []

-- what is kept after a history
abbrev pub net_kept : NetHeartbeat → Settings → ℕ → History → NetKept
net_kept n c s h = record { config = n; sfi = c.sfi; due = due_by n.every_s s (now h); count = hbt_before n c s h }

abbrev pub net_stands : NetHeartbeat → Settings → ℕ → History → NetKept → Type 0
net_stands n c s h k = k ≡ net_kept n c s h

-- ---- on the bus

pub record BusKept : Type 0 where
  -- the seconds between two
  pub every : ℕ
  pub due : ℕ
  pub count : ℕ

abbrev pub bus_opened : ℕ → BusKept
bus_opened every = record { every = every; due = 0; count = 0 }

module _ (claims : Claims) (s m : ℕ) where
  abbrev pub could_send : BusKept → Bool
  could_send k = is_ready claims (last_due k.every s m)

  abbrev pub bus_passes : BusKept → Bool
  bus_passes k = nat_lt k.due (due_by k.every s m)

  abbrev pub bus_after : BusKept → BusKept
  bus_after k = if bus_passes k then record k { due = due_by k.every s m; count = if could_send k then k.count + 1 else k.count } else k

  abbrev pub bus_tells : BusKept → List Emit
  bus_tells k = if bus_passes k && could_send k then beat_from claims.own k.count else []

abbrev pub bus_kept : ℕ → Settings → ℕ → History → BusKept
bus_kept every c s h = record { every = every; due = due_by every s (now h); count = beats_before every c s h }

abbrev pub bus_stands : ℕ → Settings → ℕ → History → BusKept → Type 0
bus_stands every c s h k = k ≡ bus_kept every c s h
