-- How much an entry emits at most.
use Rattle.std.specs.Prelude.{ℕ, ◌+◌, ◌*◌, ◌≤◌, List, length}
use Rattle.n2k_id.specs.Frame.{BusFrame}
use Rattle.history.specs.AddressLaws.{AreSettings}
use Rattle.history.specs.Entries.{Entry, History, IsHistory, frame, datagram, tick, command, moment_of, now}
use Rattle.history.specs.Settings.{Settings}
use Rattle.history.specs.Gate.{expired, out}

-- what ends by time is no more than what may be open; an addressed session has an abort besides
abbrev pub room_of : Settings → ℕ
room_of c = c.fast_slots + 2 * c.iso_slots + c.group_slots

pub record EntriesFit (c : Settings) (s : ℕ) (h : History) (m : ℕ) : Type 0 where
  pub by_time : length (expired c s h m) ≤ room_of c
  pub at_tick : length (out c s h (tick m)) ≤ room_of c
  -- what an address takes away that is left, one that is won, and another own address; and the reports, the reply and the datagram of one
  -- frame
  pub at_frame : (f : BusFrame) → length (out c s h (frame m f)) ≤ room_of c + (2 * c.fast_slots + 3 * c.iso_slots) + 20
  pub at_command : (source address : ℕ) → length (out c s h (command m source address)) ≤ room_of c + c.iso_slots + 2

abbrev pub AllEntriesFit : Type 0
AllEntriesFit = (c : Settings) (s : ℕ) (h : History) (m : ℕ) → AreSettings c → IsHistory h → now h ≤ m → EntriesFit c s h m

-- a datagram has at most 64 lines and a fault behind them; each hands over its own sentence and up to 8 of each open group, and a sentence
-- gives at most 7 frames
abbrev pub DatagramsFit : Type 0
DatagramsFit =
    (c : Settings) (s : ℕ) (h : History) (m : ℕ) (bytes : List ℕ) → AreSettings c → IsHistory h → now h ≤ m
    → length (out c s h (datagram m bytes)) ≤ room_of c + 56 * c.group_slots + 651

-- the greatest limits that can be configured
pub record IsWithinLimits (c : Settings) : Type 0 where
  pub fast : c.fast_slots ≤ 256
  pub iso : c.iso_slots ≤ 32
  pub groups : c.group_slots ≤ 32

-- room for 4095 emits is enough for every entry, so that a datagram finds room besides among 4096
abbrev pub RoomSuffices : Type 0
RoomSuffices =
    (c : Settings) (s : ℕ) (h : History) (e : Entry) → AreSettings c → IsWithinLimits c → IsHistory h → now h ≤ moment_of e
    → length (out c s h e) ≤ 4095
