use Rattle.std.proofs.Common.{◌≡◌, ◌<◌, length, subst, sym}
use Rattle.std.specs.Prelude.{IfSome}
use Rattle.claim_table.specs.Claims.{claim_of, places}
use Rattle.history.specs.Known.{address_left, address_won}
use Rattle.gate_model.proofs.SaidAddresses.{claims_fit}
use Rattle.gate_model.specs.Machine.{Machine}
use Rattle.gate_core.proofs.state.State.note_claim.Goals as goal

pub returns-clause-left : goal.returns-clause-left
returns-clause-left c =
    let k = c.self.inside.addresses in
    let holders = subst (λ (z : Machine). length z.addresses.claims.holders ≡ places) (sym c.self.view_is) c.requires.stays.holders in
    let fits = claims_fit k.claims (claim_of c.args.address c.args.name.0 k.count c.args.moment) holders in
    subst (λ step. IfSome (address_left step) (λ a. a < 254)) (sym c.claim.ensures.step) fits.left

pub returns-clause-won : goal.returns-clause-won
returns-clause-won c =
    let k = c.self.inside.addresses in
    let holders = subst (λ (z : Machine). length z.addresses.claims.holders ≡ places) (sym c.self.view_is) c.requires.stays.holders in
    let fits = claims_fit k.claims (claim_of c.args.address c.args.name.0 k.count c.args.moment) holders in
    subst (λ step. IfSome (address_won step) (λ a. a < 254)) (sym c.claim.ensures.step) fits.won

pub returns-clause-after : goal.returns-clause-after
returns-clause-after c = rw (← c.self.view_is, c.claim.ensures.after)

pub returns-clause-step : goal.returns-clause-step
returns-clause-step c = rw (← c.self.view_is) c.claim.ensures.step
