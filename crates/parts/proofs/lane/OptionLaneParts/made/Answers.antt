use Rattle.std.proofs.Common.{subst}
use Rattle.std.specs.Prelude.{Option}
use Rattle.settings.specs.Setup.{gateway_of}
use Rattle.parts.specs.Compose.{maybe_stand}
use Rattle.parts.specs.PartSteps.{IsOpened}
use Rattle.parts.proofs.Made.{lane_made, none_made}
use Rattle.parts.proofs.lane.OptionLaneParts.made.Goals as goal

pub returns-in_ok-new-in-Some : goal.returns-in_ok-new-in-Some
returns-in_ok-new-in-Some g c =
    let asked = g.P.Part.asked c.args.setup.now in
    let here = gateway_of c.args.setup.now in
    lane_made g.P.Part.stands g.E.Place.output g.E.Place.plain asked here c.in-Some.part c.in_ok-new-in-Some.field-0
    (subst (λ (o : Option g.row.P.Denot). IsOpened (maybe_stand g.P.Part.stands) asked here o) c.in-Some.is c.in_ok-part.ensures) c.in_ok-new-in-Some.ensures

pub returns-in-None : goal.returns-in-None
returns-in-None g c =
    let asked = g.P.Part.asked c.args.setup.now in
    let here = gateway_of c.args.setup.now in
    none_made g.P.Part.stands g.E.Place.output g.E.Place.plain asked here
    (subst (λ (o : Option g.row.P.Denot). IsOpened (maybe_stand g.P.Part.stands) asked here o) c.in-None.is c.in_ok-part.ensures)
