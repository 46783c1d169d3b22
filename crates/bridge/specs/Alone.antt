-- What a gateway of settings alone emits, over everything that ever came: at each event what the gateway itself emits, then its answers to who
-- asks who it is, RMC and the reports of ships around; and then what it emits at the command that the event completes (ISO 11783-5). No
-- further part is named here.
use Rattle.std.specs.Prelude.{◌≡◌, ℕ, List, ◌++◌}
use Rattle.gate_events.specs.Emit.{Emit, Emitted}
use Rattle.history.specs.Entries.{Entry, History}
use Rattle.history.specs.Gate.{out, gate_by}
use Rattle.history.specs.Settings as history
use Rattle.bus_identity.specs.Payloads.{information_of}
use Rattle.config_values.specs.Settings.{settings_of}
use Rattle.parts.specs.Compose.{maybe_give}
use Rattle.settings.specs.Setup.{alone}
use Rattle.settings.specs.declared.settings.Settings.{Settings}
use Rattle.ais_bridge.specs.AisOut.{ais_out}
use Rattle.bus_answers.specs.Answered.{answers}
use Rattle.joined_rmc.specs.RmcPart.{joining_gives, rmc_rule}
use Rattle.bridge.specs.BridgeSettings.{bridge_settings_of}
use Rattle.bridge.specs.Gate.{all_out, gate}

module _ (x : Settings) where
  abbrev pub gateway_alone : history.Settings
  gateway_alone = settings_of x.config

  module _ (s : ℕ) where
    abbrev pub out_alone : History → Entry → List Emit
    out_alone h e =
        out gateway_alone s h e
        ++ (answers gateway_alone s (information_of x.product) h e
        ++ (maybe_give joining_gives (rmc_rule x.config x.rmc) gateway_alone s h e ++ maybe_give ais_out x.ais gateway_alone s h e))

    abbrev pub gate_alone : List Entry → List Emitted
    gate_alone events = gate_by gateway_alone s out_alone events

-- ---- a gateway of settings alone is this one

-- at each event
abbrev pub StepsAlone : Type 0
StepsAlone =
    (x : Settings) (s : ℕ) (h : History) (e : Entry) → all_out (bridge_settings_of (alone x)) s h e ≡ out_alone x s h e

-- in a whole run, from its start on
abbrev pub RunsAlone : Type 0
RunsAlone = (x : Settings) (s : ℕ) (events : List Entry) → gate (bridge_settings_of (alone x)) s events ≡ gate_alone x s events
