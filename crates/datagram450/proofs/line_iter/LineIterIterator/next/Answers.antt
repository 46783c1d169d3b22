use Rattle.std.proofs.Common.{rules, ◌≡◌, ◌<◌, ◌+◌, ◌-◌, ◌∷◌, length, length-drop, sym, ap, ◌∙◌, arith}
use Rattle.std.proofs.lemmas.Bool.{eqb-true}
use Rattle.datagram450.specs.Datagram.{Item, item_view, items_from}
use Rattle.datagram450.proofs.Cutting.{end_place, is_some, no_items, rest_alone, line_alone, line_too_many, line_next}
use Rattle.datagram450.proofs.line_iter.LineIterIterator.next.Goals as goal

pub returns-then-is_empty-clause-steps : goal.returns-then-is_empty-clause-steps
returns-then-is_empty-clause-steps c =
    let s = c.self.inside in
    let none = sym c.self.view_is ∙ no_items s.left s.at s.rest.now (eqb-true (length s.rest.now) 0 (sym c.is_empty.ensures ∙ c.if-is_empty.true)) in
    (none, none)

pub returns-in-Some-clause-steps : goal.returns-in-Some-clause-steps
returns-in-Some-clause-steps c =
    let s = c.self.inside in
    let none : length c.split_at.result.1.now ≡ 0 = omega (arith, ap length c.split_at.ensures.back, length-drop (length s.rest.now) s.rest.now) in
    sym c.self.view_is ∙ line_alone s.left s.at s.rest.now c.split_at.result.1.now (item_view c.in-Some.item) (λ e. omega (arith, c.if-self-eq-MOST_LINES.true, e)) c.in-Some.ensures.0 c.in-Some.ensures.1 none

pub returns-in-Some-clause-goes : goal.returns-in-Some-clause-goes
returns-in-Some-clause-goes c =
    let shorter = ap length (returns-in-Some-clause-steps c) in search rules

pub returns-then-place-rest-clause-steps : goal.returns-then-place-rest-clause-steps
returns-then-place-rest-clause-steps c =
    let s = c.self.inside in
    let none : length c.split_at-then-place-rest.result.1.now ≡ 0 = omega (arith, ap length c.split_at-then-place-rest.ensures.back, length-drop c.text_run-place.result s.rest.now, c.if-place-rest.true) in
    sym c.self.view_is ∙ rest_alone s.left s.at s.rest.now c.split_at-then-place-rest.result.1.now (is_some s.rest.now c.is_empty.result c.is_empty.ensures c.if-is_empty.false) (sym c.text_run-place.ensures.run ∙ c.if-place-rest.true) none

pub returns-then-place-rest-clause-goes : goal.returns-then-place-rest-clause-goes
returns-then-place-rest-clause-goes c =
    let shorter = ap length (returns-then-place-rest-clause-steps c) in search rules

pub returns-then-self-eq0-clause-steps : goal.returns-then-self-eq0-clause-steps
returns-then-self-eq0-clause-steps c =
    let s = c.self.inside in
    let none : length c.split_at-then-self-eq0.result.1.now ≡ 0 = omega (arith, ap length c.split_at-then-self-eq0.ensures.back, length-drop (length s.rest.now) s.rest.now) in
    let within : end_place s.rest.now < length s.rest.now = omega (arith, c.text_run-place.ensures.run, c.text_run-place.ensures.within, c.if-place-rest.false) in
    sym c.self.view_is ∙ line_too_many s.left s.at s.rest.now c.split_at-then-self-eq0.result.1.now c.if-self-eq0.true within none

pub returns-then-self-eq0-clause-goes : goal.returns-then-self-eq0-clause-goes
returns-then-self-eq0-clause-goes c =
    let shorter = ap length (returns-then-self-eq0-clause-steps c) in search rules

pub returns-clause-steps : goal.returns-clause-steps
returns-clause-steps c =
    let s = c.self.inside in
    let place = c.text_run-place.result in
    let line = c.split_at-2.result.0.now in
    let behind = c.split_at-2.result.1.now in
    let within : place < length s.rest.now = omega (arith, c.text_run-place.ensures.within, c.if-place-rest.false) in
    sym c.self.view_is
    ∙ line_next s.left s.at place s.rest.now line behind c.if-self-eq0.false c.text_run-place.ensures.run within c.split_at-2.ensures.front c.split_at-2.ensures.back
    ∙ ap (λ (x : Item). x ∷ items_from (s.left - 1) (s.at + length line) behind) (sym c.read_line.ensures)

pub returns-clause-goes : goal.returns-clause-goes
returns-clause-goes c =
    let shorter = ap length (returns-clause-steps c) in search rules
