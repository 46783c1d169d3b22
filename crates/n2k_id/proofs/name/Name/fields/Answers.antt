use Rattle.std.proofs.Common.{◌^◌, ◌<◌, arith}
use Rattle.n2k_id.proofs.NameLemmas.{made_of_fields}
use Rattle.n2k_id.proofs.name.Name.fields.Goals as goal

pub returns-clause-layout : goal.returns-clause-layout
returns-clause-layout c =
    let in_range : c.args.self.0 < 2 ^ 64 = omega arith in
    rw c.cut.ensures (made_of_fields c.args.self.0 in_range)
