use Rattle.std.proofs.Common.{◌<◌, length, refl, rules, subst, sym}
use Rattle.std.specs.Prelude.{Option, Some}
use Rattle.config_values.specs.Settings.{settings_ignoring}
use Rattle.settings.specs.Setup.{gateway_of}
use Rattle.settings.specs.declared.heading.HeadingConfig.{HeadingConfig}
use Rattle.settings.proofs.RowTimeouts.{row_timeout}
use Rattle.parts.specs.Compose.{maybe_stand}
use Rattle.parts.specs.PartSteps.{IsOpened}
use Rattle.joined_heading.specs.HeadingPart.{rule_in}
use Rattle.joined_heading.specs.Promises.{StandsHeading}
use Rattle.joined_heading.proofs.part.JoinedHeadingPartHeadingPlace.opened.Goals as goal

pub new-requires : goal.new-requires
new-requires c = (c.requires.heading c.in-Some.heading c.in-Some.is).variation

pub returns-in_ok-new-in-Some : goal.returns-in_ok-new-in-Some
unfolding settings_ignoring
returns-in_ok-new-in-Some c =
    let here = gateway_of c.args.setup.now in
    let rows = c.args.setup.now.settings.config.rows in
    let within : 0 < length rows = search rules in
    subst (λ (j : Option HeadingConfig). IsOpened (maybe_stand StandsHeading) (rule_in c.args.setup.now.ignore.items j) here (Some c.in_ok-new-in-Some.field-0))
    (sym c.in-Some.is) (λ s. c.in_ok-new-in-Some.ensures.history here s refl (row_timeout c.args.setup.now.ignore.items rows 0 c.index-config.result within))
