use Rattle.std.proofs.Common.{sym, subst}
use Rattle.std.specs.Prelude.{Ok}
use Rattle.gate_config.specs.ConfigOf.{IsWholeConfigOf}
use Rattle.settings.specs.Setup.{IsSetup}
use Rattle.settings.specs.declared.setup.Setup.{Setup}
use Rattle.config_check.proofs.ConfigLemmas.{says}
use Rattle.config_check.proofs.configuring.whole_of.Goals as goal

pub returns-in-Ok-boxed : goal.returns-in-Ok-boxed
returns-in-Ok-boxed c =
    subst (λ (setup : Setup). IsSetup setup × IsWholeConfigOf c.args.bytes.now (Ok setup)) (sym c.in-Ok-boxed.ensures)
    (c.in-Ok.ensures.valid, says c.args.bytes.now c.in-Ok.setup c.in-Ok.ensures.exact)
