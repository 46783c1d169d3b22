use Rattle.std.proofs.Common.{ℕ, ◌++◌, Ok, subst, sym}
use Rattle.gate_events.specs.Event.{view}
use Rattle.replaying.specs.Replaying.{GivesReplay, IsAnswer, IsOpening, output_text}
use Rattle.replaying.proofs.Replays.{gives_event}
use Rattle.replaying.proofs.SendingLemmas.{is_sent}
use Rattle.bridge.proofs.Steps.{event_valid}
use Rattle.replaying.proofs.replay.ReplayAnswers.answer_event.Goals as goal

pub take-requires-clause-valid : goal.take-requires-clause-valid
take-requires-clause-valid g c = event_valid c.args.event.now c.requires

pub returns : goal.returns
returns g c =
    let e = c.args.event.now in
    let n = c.args.number in
    let t = g.K.Sink.taken c.args.out.now in
    let f = g.K.Sink.fault_count c.args.out.now in
    let w = c.args.writer.now in
    let lent = c.args.self.now.bridge in
    let before = lent.now in
    let after = c.take.new.self in
    let first = c.open-opened.ensures in
    let text = first.0 ++ output_text c.moment.result after in
    let s = c.send_output.ensures t f w first.0 first.2 in
    let opens = subst (λ (m : ℕ). IsOpening m before first.0 c.open-opened.new.bridge) c.moment_of.ensures first.1 in
    let gives = gives_event e n before c.open-opened.new.bridge after first.0 opens c.take.ensures.step in
    record {
      sent = is_sent (IsAnswer c.args.self.now n (Ok (view e))) t (g.K.Sink.taken c.send_output.new.out) w text
          c.send_output.new.writer (record { bridge = record lent { now = after } }) c.send_output.result
          (subst (λ (m : ℕ). GivesReplay before n (Ok (view e)) (first.0 ++ output_text m after) after) (sym c.moment.ensures) gives)
          s.writes;
      cause = s.cause;
    }
