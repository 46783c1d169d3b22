-- How many messages are in the making (canboat's fast packets; ISO 11783-3; groups of lines of IEC 61162-450), in the words of the history.
use Rattle.std.specs.Prelude.{◌≡◌, ℕ, ◌≤◌, length}
use Rattle.history.specs.Entries.{History, now}
use Rattle.history.specs.Settings.{Settings, receiver_of}
use Rattle.history.specs.Known.{known}
use Rattle.history.specs.Opens.{notes_of, open_fast_keys, open_iso_keys}
use Rattle.history.specs.Heard.{taken_lines, open_groups}
use Rattle.history.specs.Gate.{heard}
use Rattle.gate_core.specs.declared.gateway.HeldCounts.{HeldCounts}

-- no more than are configured
pub record IsWithin (c : Settings) (x : HeldCounts) : Type 0 where
  pub fast : x.fast ≤ c.fast_slots
  pub iso : x.iso ≤ c.iso_slots
  pub group : x.group ≤ c.group_slots

-- as many as keys are open, at the moment of the last entry
pub record IsHeld (c : Settings) (s : ℕ) (h : History) (x : HeldCounts) : Type 0 where
  pub fast : x.fast ≡ length (open_fast_keys (receiver_of c).kinds (known (receiver_of c) s h).claims.holders (notes_of (receiver_of c) s h) (now h))
  pub iso : x.iso ≡ length (open_iso_keys (known (receiver_of c) s h) (notes_of (receiver_of c) s h) (now h))
  pub group : x.group ≡ length (open_groups (taken_lines c (heard c s h)) (now h))
