use Rattle.std.proofs.Common.{refl, subst, sym}
use Rattle.std.specs.Prelude.{Option, Some}
use Rattle.config_values.specs.Settings.{settings_ignoring}
use Rattle.settings.specs.Setup.{gateway_of}
use Rattle.settings.specs.declared.nav.NavConfig.{NavConfig}
use Rattle.parts.specs.Compose.{maybe_stand}
use Rattle.parts.specs.PartSteps.{IsOpened}
use Rattle.navigation.specs.NavPart.{rule_in}
use Rattle.navigation.specs.Promises.{StandsNav}
use Rattle.navigation.proofs.part.NavigationPartNavPlace.opened.Goals as goal

pub new-requires-clause-legs : goal.new-requires-clause-legs
new-requires-clause-legs c = (c.requires.nav c.in-Some.nav c.in-Some.is).legs

pub new-requires-clause-slots : goal.new-requires-clause-slots
new-requires-clause-slots c = (c.requires.nav c.in-Some.nav c.in-Some.is).slots

pub returns-in_ok-new-in-Some : goal.returns-in_ok-new-in-Some
unfolding settings_ignoring
returns-in_ok-new-in-Some c =
    let here = gateway_of c.args.setup.now in
    subst (λ (n : Option NavConfig). IsOpened (maybe_stand StandsNav) (rule_in c.args.setup.now.ignore.items n) here (Some c.in_ok-new-in-Some.field-0))
    (sym c.in-Some.is) (λ s. c.in_ok-new-in-Some.ensures.history here s refl)
