use Rattle.std.proofs.Common.{◌≡◌, ◌++◌, take, ◌∙◌, arith}
use Rattle.std.proofs.lemmas.Grind.{common_steps}
use Rattle.std.proofs.lemmas.List.{length-take-le}
use Rattle.config_document.proofs.Cutting.{fills}
use Rattle.config_document.proofs.fault.append_cut.Goals as goal

pub returns-clause-items : goal.returns-clause-items
returns-clause-items c =
    let appended : c.try_extend_from_slice-fits.new.self.items ≡ c.args.key.now.items ++ take c.min-end.result c.args.bytes.now =
    grind (arith, common_steps, length-take-le) in
    appended ∙ fills c.args.key.now.items c.args.bytes.now c.min-end.result c.requires (omega (arith, c.min-end.ensures, c.len-room.ensures.value))
