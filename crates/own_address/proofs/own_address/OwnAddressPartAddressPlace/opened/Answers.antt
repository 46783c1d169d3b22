use Rattle.std.proofs.Common.{Bool, [], refl, sym, subst}
use Rattle.std.specs.Prelude.{Some}
use Rattle.config_values.specs.Settings.{settings_ignoring}
use Rattle.settings.specs.Setup.{gateway_of}
use Rattle.parts.specs.Compose.{maybe_stand, wanted}
use Rattle.own_address.specs.AddressOut.{address_stands}
use Rattle.own_address.proofs.own_address.OwnAddressPartAddressPlace.opened.Goals as goal

pub returns-then-setup : goal.returns-then-setup
unfolding settings_ignoring
returns-then-setup c = λ s.
    let here = gateway_of c.args.setup.now in
    subst (λ (b : Bool). maybe_stand address_stands (wanted b) here s [] (Some c.new.result)) (sym c.if-setup.true) (c.new.ensures here refl s)
