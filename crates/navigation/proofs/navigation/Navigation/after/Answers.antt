use Rattle.std.proofs.Common.{◌≡◌, ◌≤◌, ◌∷◌, length, length-append, sym, ap, subst, ◌∙◌, arith}
use Rattle.gate_outbox.specs.Output.{Emitted, and_left, emits_of}
use Rattle.gate_outbox.proofs.Telling.{left_first}
use Rattle.bus_listener.specs.Steps.{entry_of}
use Rattle.navigation.specs.Kept.{NavKept, hearing_by, left_by, most_told, with_hearing}
use Rattle.navigation.specs.Promises.{StandsNav}
use Rattle.navigation.proofs.Steps.{step_room, taken_step}
use Rattle.navigation.proofs.navigation.Navigation.after.Goals as goal

pub returns : goal.returns
returns c =
    let g = c.args.gateway.now in
    let k = c.args.self.now in
    let e = entry_of c.args.event.now in
    let heard = hearing_by g k e in
    let room : length heard.told ≤ 258 = c.hear.ensures.room in
    let more = step_room g k heard in
    let sum = length-append heard.told (with_hearing g k heard).told in
    let fits : length (left_by g k e).told ≤ most_told = omega (arith, room, more, sum) in
    let emits_are : c.hear.new.emits ≡ left_by g k e =
    c.hear.ensures.emits ∙ ap (λ (es : Emitted). and_left most_told es (left_by g k e)) c.requires.empty ∙ left_first most_told (left_by g k e) fits in
    record {
      history = λ x s h settings could taken it.
          let t = taken_step g e k c.hear.ensures.few c.hear.ensures.history x s h settings could taken it in
          record {
            stands = subst (λ (k : NavKept). StandsNav x g.settings s (e ∷ h) k) (sym c.hear.ensures.after) t.stands;
            emits = ap emits_of emits_are ∙ t.emits;
          };
    }
