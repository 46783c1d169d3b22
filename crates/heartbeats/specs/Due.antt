-- Moments at which a heartbeat is due: one after each whole interval since the start, and none at the start itself. An event has a beat where one
-- of them lies after the event before it and not after itself, so there is at most one at an event, and the grid doesn't drift.
use Rattle.std.specs.Prelude.{ℕ, ◌+◌, ◌-◌, ◌*◌, ◌/◌, Bool, false, nat_lt}
use Rattle.history.specs.Entries as entry
use Rattle.history.specs.Entries.{Entry, History, now}

-- so many seconds lie between two of them; moments are in microseconds
module _ (every s : ℕ) where
  -- how many there are up to a moment
  abbrev pub due_by : ℕ → ℕ
  due_by m = (m - s) / (1000000 * every)

  -- the last one up to a moment
  abbrev pub last_due : ℕ → ℕ
  last_due m = s + 1000000 * every * due_by m

  -- there are more up to an event than up to the event before it; before anything came there was none, and a command is no event
  abbrev pub is_due : History → Entry → Bool
  is_due h (entry.frame m f) = nat_lt (due_by (now h)) (due_by m)
  is_due h (entry.datagram m bytes) = nat_lt (due_by (now h)) (due_by m)
  is_due h (entry.tick m) = nat_lt (due_by (now h)) (due_by m)
  is_due h (entry.command m source address) = false
