use Rattle.std.proofs.Common.{◌≡◌, subst, sym}
use Rattle.std.specs.Prelude.{None}
use Rattle.replaying.specs.Replayed.{IsReplay}
use Rattle.command_line.specs.declared.statuses.Status.{Status}
use Rattle.command_line.specs.Statuses.{EndsBy, SteadyBy, number}
use Rattle.command_line.proofs.StatusLemmas.{ends_by, steady_by}
use Rattle.gateway_commands.proofs.ReplayLemmas.{unhindered}
use Rattle.gateway_commands.proofs.replay.answer.Goals as goal

pub returns-clause-ends : goal.returns-clause-ends
returns-clause-ends g c = λ p new.
    let left = g.S.Source.left c.args.input.now in
    let left' = g.S.Source.left c.replay_capture.new.input in
    let told = g.K.Sink.taken c.args.out.now in
    let told' = g.K.Sink.taken c.replay_capture.new.out in
    subst (λ (s : Status). EndsBy (IsReplay p) left left' told told' (number s)) (sym c.status_of.ensures.status)
    (ends_by (IsReplay p) left left' told told' c.replay_capture.result (c.replay_capture.ensures.ends p None new))

pub returns-clause-steady : goal.returns-clause-steady
returns-clause-steady g c =
    let source = g.S.Source.fault_count c.args.input.now in
    let source' = g.S.Source.fault_count c.replay_capture.new.input in
    let sink = g.K.Sink.fault_count c.args.out.now in
    let sink' = g.K.Sink.fault_count c.replay_capture.new.out in
    subst (λ (s : Status). SteadyBy source source' sink sink' (number s)) (sym c.status_of.ensures.status)
    (steady_by source source' sink sink' c.replay_capture.result c.replay_capture.ensures.steady)

pub returns-clause-complete : goal.returns-clause-complete
returns-clause-complete g c = λ p new held.
    let left = g.S.Source.left c.args.input.now in
    let left' = g.S.Source.left c.replay_capture.new.input in
    let told = g.K.Sink.taken c.args.out.now in
    let told' = g.K.Sink.taken c.replay_capture.new.out in
    subst (λ (s : Status). number s ≡ 0) (sym c.status_of.ensures.status)
    (unhindered (IsReplay p) left left' told told' _ _ _ _ c.replay_capture.result (c.replay_capture.ensures.ends p None new) c.replay_capture.ensures.source
    c.replay_capture.ensures.sink held)
