-- When the configuration of a gateway between the bus (ISO 11783) and the network (IEC 61162-450) is valid: each value is in its range,
-- and nothing stands twice that may stand only once. The conditions stand in the order of the keys.
use Rattle.std.specs.Prelude.{◌≢◌, ◌<◌, List, All}
use Rattle.std.specs.Int.{IsInRange}
use Rattle.std.specs.List.{AllPairs}
use Rattle.claim_table.specs.Claims.{move_places}
use Rattle.network_routes.specs.declared.Route.{Route}
use Rattle.config_values.specs.declared.config.Config.{Config}
use Rattle.config_values.specs.declared.config.Ends.{Ends}
use Rattle.config_values.specs.Endpoints.{IsEndpoint}
use Rattle.config_values.specs.Presets.{ArePresets}
use Rattle.config_values.specs.Rows.{IsRow}

-- no group has two routes
pub record AreRoutes (routes : List Route) : Type 0 where
  pub groups : AllPairs (λ r q. r.group ≢ q.group) routes
  pub addresses : All (λ r. IsEndpoint r.address.items) routes

pub record AreEnds (ends : Ends) : Type 0 where
  pub net_listen : IsEndpoint ends.net_listen.items
  -- where every group goes that has no route
  pub net_send : IsEndpoint ends.net.other.items
  pub bus_listen : IsEndpoint ends.bus_listen.items
  pub bus_send : IsEndpoint ends.bus_send.items
  pub routes : AreRoutes ends.net.list.items

pub record IsConfig (c : Config) : Type 0 where
  -- one that a device may move to: 0 to 251
  pub address : c.address < move_places
  pub fast_slots : IsInRange 1 256 c.fast_slots
  pub iso_slots : IsInRange 1 32 c.iso_slots
  pub group_slots : IsInRange 1 32 c.group_slots
  pub presets : ArePresets c.name c.address c.presets.items
  pub rows : All IsRow c.rows
  -- no source of the network stands twice, and the gateway isn't its own
  pub net_sources : AllPairs (λ s t. s ≢ t) c.net_sources.items
  pub net_others : All (λ s. c.sfi ≢ s) c.net_sources.items
  pub ends : AreEnds c.ends
