use Rattle.std.proofs.Common.{subst, sym}
use Rattle.std.specs.Prelude.{Option, Some}
use Rattle.settings.specs.Setup.{gateway_of}
use Rattle.settings.specs.declared.rmc.RmcConfig.{RmcConfig}
use Rattle.parts.specs.Compose.{maybe_stand}
use Rattle.parts.specs.PartSteps.{IsOpened}
use Rattle.joined_rmc.specs.RmcPart.{joining_stands, rmc_rule}
use Rattle.joined_rmc.proofs.joining.JoiningPartRmcPlace.opened.Goals as goal

pub returns-in-Some : goal.returns-in-Some
returns-in-Some c =
    let here = gateway_of c.args.setup.now in
    subst (λ (r : Option RmcConfig). IsOpened (maybe_stand joining_stands) (rmc_rule c.args.setup.now.settings.config r) here (Some c.new.result))
    (sym c.in-Some.is) (c.new.ensures here)
