use Rattle.std.proofs.Common.{refl}
use Rattle.claim_table.proofs.claiming.ClaimTable.vacate.Goals as goal

pub returns-in-Some : goal.returns-in-Some
returns-in-Some c = rw (c.in-Some.is, c.from.ensures, ← c.self.view_is) refl
