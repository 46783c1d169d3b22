use Rattle.std.proofs.Common.{refl}
use Rattle.demo.proofs.Inputs.{first}
use Rattle.demo.proofs.input.Input.new.Goals as goal

pub returns : goal.returns
returns c = first c.args.seed _ refl c.new.ensures refl
