use Rattle.std.proofs.Common.{◌≡◌, ◌≤◌, List, [], length, length-append, ap, ◌∙◌, arith}
use Rattle.std.specs.Prelude.{option_map}
use Rattle.gate_events.specs.Emit.{Emit}
use Rattle.gate_outbox.specs.Output.{Emitted, and_left, and_posted}
use Rattle.gate_outbox.proofs.Telling.{left_first}
use Rattle.gate_core.proofs.Picks.{last_is_picked}
use Rattle.parts.specs.Picked.{last_picked}
use Rattle.bus_listener.specs.Steps.{entry_of}
use Rattle.further_bridge.specs.Kept.{FurtherStep, followed, hearing_by, message_step, most_told, said_of, step_by, streams_in}
use Rattle.further_bridge.proofs.MessageLemmas.{message_room}
use Rattle.further_bridge.proofs.Passing.{says_no_second, says_no_third}
use Rattle.further_bridge.proofs.Places.{placed}
use Rattle.further_bridge.proofs.StepLemmas.{taken_step}
use Rattle.further_bridge.proofs.bridge.FurtherBridge.after.Goals as goal

pub returns : goal.returns
returns c =
    let g = c.args.gateway.now in
    let k = c.args.self.now in
    let e = entry_of c.args.event.now in
    let new = last_picked g c.args.outbox.now in
    let x = hearing_by g k e in
    let y : FurtherStep = step_by g new k e in
    let heard = followed g new (record k { slots = x.slots }) in
    let says = message_step heard (option_map said_of x.message) in
    let room : length x.told ≤ 258 = c.step.ensures.room in
    let said = message_room heard (option_map said_of x.message) in
    let sum = length-append x.told says.emits.told in
    let fits : length y.emits.told ≤ most_told = omega (arith, room, said, sum) in
    let first : c.step.new.emits ≡ y.emits = c.step.ensures.first ∙ ap (λ o. and_left most_told o y.emits) c.requires.empty ∙ left_first most_told y.emits fits in
    let second : c.step.new.second ≡ record { told = []; posted = y.second } =
    c.step.ensures.second ∙ ap (λ o. and_posted o y.second) c.requires.second_empty ∙ placed y.second in
    let third : c.step.new.third ≡ record { told = []; posted = y.third } =
    c.step.ensures.third ∙ ap (λ o. and_posted o y.third) c.requires.third_empty ∙ placed y.third in
    let unposted = λ (es : List Emit). let o : Emitted = record { told = []; posted = es } in o in
    let picked = last_is_picked g c.args.outbox.now in
    record {
      step = record { new = new; picked = picked; after_is = c.step.ensures.after; first_is = first; second_is = second; third_is = third };
      history = taken_step g c.args.outbox.now new picked c.args.event.now k _ _ _ _ (streams_in c.step.result) c.step.ensures.history c.step.ensures.after first second third c.step.ensures.streams;
      silent = λ none.
          let never = c.step.ensures.passed none in
          (second ∙ ap unposted (says_no_second g k new e never), third ∙ ap unposted (says_no_third g k new e never));
    }
