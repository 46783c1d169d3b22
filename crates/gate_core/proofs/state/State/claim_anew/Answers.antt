use Rattle.std.proofs.Common.{true, [], ◌∷◌}
use Rattle.history.specs.Emits.{own_claim}
use Rattle.gate_model.specs.Sessions.{lost_addressed}
use Rattle.gate_outbox.specs.Output.{most_told}
use Rattle.gate_outbox.proofs.Telling.{told_more}
use Rattle.gate_core.proofs.state.State.claim_anew.Goals as goal

pub returns-clause-emits : goal.returns-clause-emits
returns-clause-emits c =
    let g = c.args.self.now in
    rw (c.send_claim.ensures, c.lose_addressed.ensures.emits, c.name.ensures, c.own.ensures, c.lose_addressed.ensures.after)
    (told_more most_told c.args.out.now (lost_addressed true g.sessions) (own_claim g.settings.name g.addresses.claims.own ∷ []))
