use Rattle.std.proofs.Common.{◌≡◌, refl, sym, ap, ◌∙◌, ◌++◌}
use Rattle.std.specs.Prelude.{Option, None}
use Rattle.gate_outbox.specs.Output.{Emitted, emits_of, no_emits}
use Rattle.plain_out.specs.Pace.{uttered}
use Rattle.plain_out.specs.declared.stream.Stream.{Stream}
use Rattle.further_bridge.specs.Kept.{no_streams}
use Rattle.further_bridge.specs.Promises.{in_places, said_in_places}
use Rattle.further_bridge.proofs.FurtherSteps.{quantities_taken}
use Rattle.further_bridge.proofs.part.FurtherBridgePartQuantitiesPlace.after.Goals as goal

-- two places with nothing in them say nothing, whatever their streams
said_by_first : (a b : Option Stream) (first second third : Emitted) → second ≡ no_emits → third ≡ no_emits
    → uttered None (emits_of first) ++ (uttered a (emits_of second) ++ uttered b (emits_of third)) ≡ said_in_places no_streams first second third
said_by_first a b first second third none none_too =
    ap (λ (x : Emitted). uttered None (emits_of first) ++ (uttered a (emits_of x) ++ uttered b (emits_of third))) none
    ∙ ap (λ (x : Emitted). uttered None (emits_of first) ++ uttered b (emits_of x)) none_too
    ∙ sym
    (ap (λ (x : Emitted). uttered None (emits_of first) ++ (uttered None (emits_of x) ++ uttered None (emits_of third))) none
    ∙ ap (λ (x : Emitted). uttered None (emits_of first) ++ uttered None (emits_of x)) none_too)

pub returns-then-gives-2-clause-takes : goal.returns-then-gives-2-clause-takes
returns-then-gives-2-clause-takes c = λ x settings s h step stands.
    let left = in_places c.after-said.new.emits c.after-said.new.second c.after-said.new.third in
    let said = said_in_places c.in-Some.streams c.after-said.new.emits c.after-said.new.second c.after-said.new.third in
    let taken = quantities_taken c.args.step.now c.args.self.now c.after-said.new.self left said c.in-Some.ensures.history x settings s h step stands in
    record { stood = taken.stands; emits = taken.emits }

pub returns-else-gives-2-clause-takes : goal.returns-else-gives-2-clause-takes
returns-else-gives-2-clause-takes c = λ x settings s h step stands.
    let left = in_places c.after-said.new.emits c.after-said.new.second c.after-said.new.third in
    let said = said_in_places c.in-Some.streams c.after-said.new.emits c.after-said.new.second c.after-said.new.third in
    let taken = quantities_taken c.args.step.now c.args.self.now c.after-said.new.self left said c.in-Some.ensures.history x settings s h step stands in
    record { stood = taken.stands; emits = taken.emits }

pub returns-in-None-clause-takes : goal.returns-in-None-clause-takes
returns-in-None-clause-takes c = λ x settings s h step stands.
    let left = in_places c.after-said.new.emits c.after-said.new.second c.after-said.new.third in
    let said = said_in_places no_streams c.after-said.new.emits c.after-said.new.second c.after-said.new.third in
    let taken = quantities_taken c.args.step.now c.args.self.now c.after-said.new.self left said c.in-None.ensures.history x settings s h step stands in
    record { stood = taken.stands; emits = taken.emits }

pub returns-then-gives-2-clause-said : goal.returns-then-gives-2-clause-said
returns-then-gives-2-clause-said c = λ x settings s h step stands given.
    let left = in_places c.after-said.new.emits c.after-said.new.second c.after-said.new.third in
    let said = said_in_places c.in-Some.streams c.after-said.new.emits c.after-said.new.second c.after-said.new.third in
    let taken = quantities_taken c.args.step.now c.args.self.now c.after-said.new.self left said c.in-Some.ensures.history x settings s h step stands in
    taken.utters

pub returns-else-gives-2-clause-said : goal.returns-else-gives-2-clause-said
returns-else-gives-2-clause-said c = λ x settings s h step stands given.
    let left = in_places c.after-said.new.emits c.after-said.new.second c.after-said.new.third in
    let said = said_in_places c.in-Some.streams c.after-said.new.emits c.after-said.new.second c.after-said.new.third in
    let taken = quantities_taken c.args.step.now c.args.self.now c.after-said.new.self left said c.in-Some.ensures.history x settings s h step stands in
    taken.utters

pub returns-in-None-clause-said : goal.returns-in-None-clause-said
returns-in-None-clause-said c = λ x settings s h step stands given.
    let left = in_places c.after-said.new.emits c.after-said.new.second c.after-said.new.third in
    let said = said_in_places no_streams c.after-said.new.emits c.after-said.new.second c.after-said.new.third in
    let taken = quantities_taken c.args.step.now c.args.self.now c.after-said.new.self left said c.in-None.ensures.history x settings s h step stands in
    let silent = c.in-None.ensures.silent refl in
    said_by_first c.args.place.now.1.0.stream c.args.place.now.1.1.stream c.after-said.new.emits c.after-said.new.second c.after-said.new.third silent.0 silent.1
    ∙ taken.utters
