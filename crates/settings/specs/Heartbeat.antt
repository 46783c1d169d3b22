-- How heartbeats are said on the network (HBT, IEC 61162-1) and on the bus (PGN 126993), and when this is valid.
use Rattle.std.specs.Prelude.{◌≢◌, ℕ, List, Option, None}
use Rattle.std.specs.Int.{IsInRange}
use Rattle.std.specs.Option.{ForSome}
use Rattle.config_values.specs.Rows.{IsTalker}
use Rattle.settings.specs.declared.heartbeat.HeartbeatConfig.{HeartbeatConfig}
use Rattle.settings.specs.declared.heartbeat.NetHeartbeat.{NetHeartbeat}

abbrev pub no_heartbeat : HeartbeatConfig
no_heartbeat = record { net = None; bus_every_s = None }

-- how many seconds one heartbeat is due after the other
abbrev pub IsNetInterval : ℕ → Type 0
IsNetInterval every = IsInRange 1 999 every

abbrev pub IsBusInterval : ℕ → Type 0
IsBusInterval every = IsInRange 1 60 every

pub record IsNetHeartbeat (n : NetHeartbeat) : Type 0 where
  pub every : IsNetInterval n.every_s
  pub talker : IsTalker n.talker

pub record IsHeartbeat (b : HeartbeatConfig) : Type 0 where
  pub net : ForSome b.net IsNetHeartbeat
  pub bus : ForSome b.bus_every_s IsBusInterval
