use Rattle.std.proofs.Common.{refl, subst, sym}
use Rattle.std.specs.Prelude.{Option, Some}
use Rattle.config_values.specs.Settings.{settings_ignoring}
use Rattle.settings.specs.Setup.{gateway_of}
use Rattle.settings.specs.declared.ais.AisConfig.{AisConfig}
use Rattle.parts.specs.Compose.{maybe_stand}
use Rattle.parts.specs.PartSteps.{IsOpened}
use Rattle.ais_bridge.specs.Promises.{StandsAis}
use Rattle.ais_bridge.proofs.part.AisBridgePartShipsPlace.opened.Goals as goal

pub new-requires : goal.new-requires
new-requires c = (c.requires.settings.ais c.in-Some.ais c.in-Some.is).slots

pub returns-in_ok-new-in-Some : goal.returns-in_ok-new-in-Some
unfolding settings_ignoring
returns-in_ok-new-in-Some c =
    let here = gateway_of c.args.setup.now in
    subst (λ (a : Option AisConfig). IsOpened (maybe_stand StandsAis) a here (Some c.in_ok-new-in-Some.field-0)) (sym c.in-Some.is)
    (λ s. c.in_ok-new-in-Some.ensures.history here s refl)
