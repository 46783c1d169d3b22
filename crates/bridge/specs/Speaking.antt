-- When a gateway and the parts beside it can be understood: they speak by a system function identifier (IEC 61162-450), and each of their
-- talkers has two capital letters (IEC 61162-1).
use Rattle.sentence_text.specs.Names.{IsSfi}
use Rattle.readings.specs.declared.rows.Row.{Row}
use Rattle.history.specs.Settings.{rule_of}
use Rattle.config_values.specs.Rows.{IsTalker}
use Rattle.bridge.specs.Beside.{beside}
use Rattle.bridge.specs.BridgeSettings.{BridgeSettings}

pub record Speaks (p : BridgeSettings) : Type 0 where
  pub sfi : IsSfi p.gateway.sfi
  pub rows : (row : Row) → IsTalker (rule_of p.gateway row).talker
  pub parts : beside.speaks p.parts p.gateway
