use Rattle.settings.proofs.Alone.{is_setup}
use Rattle.settings.proofs.setup.Setup.alone.Goals as goal

pub returns-clause-valid : goal.returns-clause-valid
returns-clause-valid c =
    is_setup c.args.settings.now c.in_ok-copy_of.field-0 c.new.result.items c.in_ok-copy_of.ensures c.new.ensures c.requires
