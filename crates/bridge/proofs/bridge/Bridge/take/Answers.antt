use Rattle.std.proofs.Common.{◌≡◌, ℕ, true, false, nat_le, sym, ap, ◌∙◌}
use Rattle.history.specs.Entries.{Entry, moment_of, now}
use Rattle.gate_core.specs.Steps.{entry_of}
use Rattle.bridge.specs.Kept.{Bridged}
use Rattle.bridge.proofs.Steps.{accepted, events_are, goes_on, refused}
use Rattle.bridge.proofs.bridge.Bridge.take.Goals as goal

pub returns-then-accepted-clause-step : goal.returns-then-accepted-clause-step
returns-then-accepted-clause-step c = λ p s h could stands.
    let e : Entry = entry_of c.args.event.now in
    let moment = ap (λ (b : Bridged). b.gateway.moment) c.self.view_is ∙ stands.gateway.moment in
    let is : nat_le (now h) (moment_of e) ≡ true = sym (ap (λ (m : ℕ). nat_le m (moment_of e)) moment) ∙ sym c.if-accepted.ensures in
    accepted p s h c.args.self.now c.forget.new.self c.step.new.self e could stands c.forget.ensures c.step.ensures is
    (events_are c.args.event.now) (goes_on c.args.event.now h c.requires.valid could is) c.tell.new.self c.tell.ensures c.obey.new.self c.obey.ensures

pub returns-else-accepted-clause-step : goal.returns-else-accepted-clause-step
returns-else-accepted-clause-step c = λ p s h could stands.
    let e : Entry = entry_of c.args.event.now in
    let moment = ap (λ (b : Bridged). b.gateway.moment) c.self.view_is ∙ stands.gateway.moment in
    let is : nat_le (now h) (moment_of e) ≡ false = sym (ap (λ (m : ℕ). nat_le m (moment_of e)) moment) ∙ sym c.if-accepted.ensures in
    refused p s h c.args.self.now c.forget.new.self c.step.new.self e could stands c.forget.ensures c.step.ensures is
