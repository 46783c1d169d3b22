use Rattle.std.proofs.Common.{[], refl, sym, subst}
use Rattle.std.specs.Prelude.{Option, Some, None}
use Rattle.config_values.specs.Settings.{settings_ignoring}
use Rattle.settings.specs.Setup.{gateway_of}
use Rattle.settings.specs.declared.heartbeat.HeartbeatConfig.{HeartbeatConfig}
use Rattle.parts.specs.Compose.{maybe_stand}
use Rattle.heartbeats.specs.Beats.{beats_stand}
use Rattle.heartbeats.proofs.heartbeats.Heartbeats.opened.Goals as goal

pub returns-then-asks : goal.returns-then-asks
unfolding settings_ignoring
returns-then-asks c = λ s.
    let here = gateway_of c.args.setup.now in
    subst (λ (b : Option HeartbeatConfig). maybe_stand beats_stand b here s [] (Some c.new.result)) (sym (rw c.if-asks.true at c.asks.ensures))
    (c.new.ensures here refl s)

pub returns-else-asks : goal.returns-else-asks
returns-else-asks c = λ s.
    subst (λ (b : Option HeartbeatConfig). maybe_stand beats_stand b (gateway_of c.args.setup.now) s [] None) (sym (rw c.if-asks.false at c.asks.ensures)) tt
