use Rattle.std.proofs.Common.{◌≡◌, ℕ, ap, subst, ◌∙◌}
use Rattle.gate_outbox.specs.Output.{Output, emits_of}
use Rattle.bridge.specs.declared.call_output.CallOutput.{CallOutput}
use Rattle.plain_out.specs.Pace.{said_all}
use Rattle.bridge.specs.Beside.{beside_plain, beside_utterances}
use Rattle.bridge.specs.Gate.{own_uttered}
use Rattle.bridge.proofs.Steps.{said_again}
use Rattle.bridge.proofs.bridge.say_again.Goals as goal

pub returns : goal.returns
returns c =
    let gateway = c.args.gateway.now in
    let output = c.args.output.now in
    let v = c.args.voice.now in
    let middle = c.say_own.new.voice in
    let stream = c.own_stream-stream.result in
    let us = own_uttered c.args.replaced stream (emits_of output.outbox.emits) in
    let parts = beside_utterances c.args.parts.now in
    let at : c.moment-moment.result ≡ gateway.moment = c.moment-moment.ensures.moment in
    let all = said_again gateway c.args.replaced output.outbox stream v middle c.say_plain.new.voice (emits_of c.say_own.new.output.plain) (beside_plain c.say_plain.new.self) parts
    c.own_stream-stream.ensures
    (c.say_own.ensures.voice ∙ ap (λ (m : ℕ). (said_all v m us).after) at)
    (c.say_own.ensures.plain ∙ ap (λ (m : ℕ). (said_all v m us).plain) at)
    (c.say_plain.ensures.voice ∙ ap (λ (m : ℕ). (said_all middle m parts).after) at)
    (c.say_plain.ensures.plain ∙ ap (λ (m : ℕ). (said_all middle m parts).plain) at) in
    record {
      outbox = ap (λ (o : CallOutput). o.outbox) c.say_own.ensures.kept;
      ordered = ap (λ (o : CallOutput). o.ordered) c.say_own.ensures.kept;
      kept = c.say_plain.ensures.kept;
      beside = c.say_plain.ensures.output;
      said = c.say_plain.ensures.said;
      plain = λ settings s h e taken. (all settings s h e taken).0;
      voice = λ settings s h e taken. (all settings s h e taken).1;
    }
