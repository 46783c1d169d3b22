-- A gateway of settings alone is the whole gateway, of which nothing further is asked.
use Rattle.std.proofs.Common.{refl}
use Rattle.readings.specs.Rows.{rows}
use Rattle.history.specs.Gate.{gate_by}
use Rattle.settings.specs.Setup.{alone}
use Rattle.row_watch.specs.WatchRule.{watch_rule}
use Rattle.bridge.specs.Alone.{RunsAlone, StepsAlone, gateway_alone}
use Rattle.bridge.specs.BridgeSettings.{bridge_settings_of}
use Rattle.bridge.proofs.Steps.{nothing_further}

pub steps_alone : StepsAlone
unfolding bridge_settings_of watch_rule rows
steps_alone x s h e = nothing_further (bridge_settings_of (alone x)) s h e refl refl

pub runs_alone : RunsAlone
unfolding bridge_settings_of watch_rule rows
runs_alone x s events = λ i. gate_by (gateway_alone x) s (λ h e. steps_alone x s h e i) events
