use Rattle.std.proofs.Common.{◌≡◌, ◌≤◌, ◌∷◌, length, length-append, sym, ap, subst, ◌∙◌, arith}
use Rattle.gate_outbox.specs.Output.{Emitted, and_posted, and_told, emits_of}
use Rattle.gate_outbox.proofs.Telling.{left_first}
use Rattle.gate_core.proofs.Picks.{last_is_picked}
use Rattle.parts.specs.Picked.{last_picked}
use Rattle.bus_listener.specs.Steps.{entry_of}
use Rattle.joined_heading.specs.Kept.{HeadingKept, heard_step, hearing_by, left_by, most_told, selected_step, step_by, told_in}
use Rattle.joined_heading.specs.Promises.{StandsHeading}
use Rattle.joined_heading.proofs.Steps.{step_room, taken_step}
use Rattle.joined_heading.proofs.joined_heading.JoinedHeading.after.Goals as goal

pub returns : goal.returns
returns c =
    let g = c.args.gateway.now in
    let k = c.args.self.now in
    let e = entry_of c.args.event.now in
    let new = last_picked g c.args.outbox.now in
    let x = hearing_by g k e in
    let after_is : c.join.new.self ≡ (step_by g new k e).after = c.join.ensures.after ∙ ap (λ (k : HeadingKept). (selected_step k g.moment new).after) c.hear.ensures.after in
    let room : length x.told ≤ 2 = c.hear.ensures.room in
    let more = step_room g k x in
    let sum = length-append x.told (heard_step g k x).told in
    let fits : length (told_in g k x) ≤ most_told = omega (arith, room, more, sum) in
    let emits_are : c.join.new.emits ≡ left_by g new k e =
    c.join.ensures.emits
    ∙ ap (λ (k : HeadingKept). and_posted c.hear.new.emits (selected_step k g.moment new).posted) c.hear.ensures.after
    ∙ ap (λ (es : Emitted). and_posted es (step_by g new k e).posted) (c.hear.ensures.emits ∙ ap (λ (es : Emitted). and_told most_told es (told_in g k x)) c.requires.empty)
    ∙ left_first most_told (left_by g new k e) fits in
    record {
      history = λ x s h settings could taken it.
          let t = taken_step g c.args.outbox.now new (last_is_picked g c.args.outbox.now) e k c.hear.ensures.history x s h settings could taken it in
          record {
            stands = subst (λ (k : HeadingKept). StandsHeading x g.settings s (e ∷ h) k) (sym after_is) t.stands;
            emits = ap emits_of emits_are ∙ t.emits;
          };
    }
