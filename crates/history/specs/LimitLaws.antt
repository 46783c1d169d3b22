-- No more messages, sessions and groups are open than there is room for.
use Rattle.std.specs.Prelude.{ℕ, ◌≤◌, length}
use Rattle.history.specs.AddressLaws.{IsReceiver}
use Rattle.history.specs.Entries.{History, IsHistory, now}
use Rattle.history.specs.Settings.{Settings, Receiver}
use Rattle.history.specs.Known.{known}
use Rattle.history.specs.Opens.{notes_of, open_fast_keys, open_iso_keys}
use Rattle.history.specs.Heard.{taken_lines, open_groups}
use Rattle.history.specs.Gate.{heard}

abbrev pub FastWithinLimit : Type 0
FastWithinLimit =
    (c : Receiver) (s : ℕ) (h : History) (m : ℕ) → IsReceiver c → IsHistory h → now h ≤ m
    → length (open_fast_keys c.kinds (known c s h).claims.holders (notes_of c s h) m) ≤ c.fast_slots

abbrev pub IsoWithinLimit : Type 0
IsoWithinLimit =
    (c : Receiver) (s : ℕ) (h : History) (m : ℕ) → IsReceiver c → IsHistory h → now h ≤ m
    → length (open_iso_keys (known c s h) (notes_of c s h) m) ≤ c.iso_slots

abbrev pub GroupsWithinLimit : Type 0
GroupsWithinLimit = (c : Settings) (s : ℕ) (h : History) (m : ℕ) → IsHistory h → now h ≤ m → length (open_groups (taken_lines c (heard c s h)) m) ≤ c.group_slots
