use Rattle.std.proofs.Common.{◌<◌, length, refl, rules, subst, sym}
use Rattle.std.specs.Prelude.{Option, Some}
use Rattle.config_values.specs.Settings.{settings_ignoring}
use Rattle.settings.specs.Setup.{gateway_of}
use Rattle.settings.specs.declared.quantity_config.Quantities.{Quantities}
use Rattle.parts.specs.Compose.{maybe_stand}
use Rattle.parts.specs.PartSteps.{IsOpened}
use Rattle.further_bridge.specs.FurtherPart.{quantities_rule}
use Rattle.further_bridge.specs.Promises.{StandsFurther}
use Rattle.settings.proofs.RowTimeouts.{row_timeout}
use Rattle.further_bridge.proofs.part.FurtherBridgePartQuantitiesPlace.opened.Goals as goal

pub new-requires : goal.new-requires
new-requires c =
    let asked = c.requires.quantities c.in-Some.quantities c.in-Some.is in
    record { slots = asked.slots; each = asked.each }

pub returns-in_ok-new-in-Some : goal.returns-in_ok-new-in-Some
unfolding settings_ignoring
returns-in_ok-new-in-Some c =
    let here = gateway_of c.args.setup.now in
    let rows = c.args.setup.now.settings.config.rows in
    let within : 15 < length rows = search rules in
    subst (λ (q : Option Quantities). IsOpened (maybe_stand StandsFurther) (quantities_rule c.args.setup.now.ignore.items q) here (Some c.in_ok-new-in-Some.field-0))
    (sym c.in-Some.is) (λ s. c.in_ok-new-in-Some.ensures.history here s refl (row_timeout c.args.setup.now.ignore.items rows 15 c.index-config.result within))
