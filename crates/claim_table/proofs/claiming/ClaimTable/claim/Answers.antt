use Rattle.std.proofs.Common.{arith}
use Rattle.claim_table.specs.Claims.{claim_of}
use Rattle.claim_table.proofs.CaseLemmas.{claim_case}
use Rattle.claim_table.proofs.LawLemmas.{latest_after_claim}
use Rattle.claim_table.proofs.claiming.ClaimTable.claim.Goals as goal

pub returns-clause-cases : goal.returns-clause-cases
returns-clause-cases c =
    rw (c.handle.ensures.after, c.handle.ensures.step) (claim_case c.args.self.now (claim_of c.args.address c.args.name.0 c.args.index c.args.moment))

pub returns-clause-latest : goal.returns-clause-latest
returns-clause-latest c = grind (arith, latest_after_claim)
