use Rattle.claim_table.specs.Claims.{claims_at_start}
use Rattle.claim_table.proofs.OpenedLemmas.{opened_dated}
use Rattle.claim_table.proofs.claiming.ClaimTable.new.Goals as goal

pub returns-in-Ok-clause-dated : goal.returns-in-Ok-clause-dated
unfolding claims_at_start
returns-in-Ok-clause-dated c =
    rw c.in-Ok.ensures.holders (opened_dated c.args.own.0 c.args.preferred c.args.presets.now)
