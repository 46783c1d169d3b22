-- A gateway with the parts beside it that was started, or wasn't yet: what it lived through, and the bridge that stands for it.
use Rattle.std.specs.Prelude.{ℕ, Option, Some, None}
use Rattle.gate_events.specs.Event as event
use Rattle.gate_events.specs.Event.{Seen}
use Rattle.history.specs.Entries.{Entry, History, IsHistory, now}
use Rattle.history.specs.Entries as entry
use Rattle.bridge.specs.BridgeStands.{BridgeStands, IsNew}
use Rattle.bridge.specs.Kept.{Bridged}
use Rattle.bridge.specs.BridgeSettings.{BridgeSettings}

-- what is said of an event, as an entry
abbrev pub entry_of : Seen → Entry
entry_of (event.frame m f) = entry.frame m f
entry_of (event.datagram m bytes) = entry.datagram m bytes
entry_of (event.tick m) = entry.tick m

pub record Running : Type 0 where
  pub start : ℕ
  pub history : History

-- the moment of what it lived through, and 0 before its start
abbrev pub moment_in : Option Running → ℕ
moment_in None = 0
moment_in (Some g) = now g.history

abbrev pub RunningStands : BridgeSettings → Option Running → Bridged → Type 0
RunningStands p None b = IsNew p b
RunningStands p (Some g) b = IsHistory g.history × BridgeStands p g.start g.history b
