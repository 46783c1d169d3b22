use Rattle.std.proofs.Common.{◌≡◌, ℕ, Bool, [], ◌∷◌, sym, ap, ◌∙◌, arith}
use Rattle.std.specs.Prelude.{◌||◌, max}
use Rattle.serving.proofs.Turning.{any_event, stops_bus, stops_net, stops_opening, turn_taken, turns}
use Rattle.serving.proofs.turns.take_turn.Goals as goal
use Rattle.serving.proofs.turns.take_turn.Goals.{then-by_bus, else-by_bus}

pub returns-in-Err : goal.returns-in-Err
returns-in-Err g c =
    let is = c.max-moment.ensures ∙ ap (λ (k : ℕ). max c.now.result k) c.moment.ensures in
    record {
      reading = c.now.result;
      bus = [];
      net = [];
      reads = c.now.ensures;
      cut = (omega arith, omega arith, omega arith);
      does = stops_opening c.max-moment.result c.now.result c.args.number c.args.bridge.now is _ _ c.in-Err.ensures.does;
    }

pub returns-in-Err-hear_bus : goal.returns-in-Err-hear_bus
returns-in-Err-hear_bus g c =
    let is = c.max-moment.ensures ∙ ap (λ (k : ℕ). max c.now.result k) c.moment.ensures in
    let b = c.in-Err-hear_bus.ensures.heard in
    record {
      reading = c.now.result;
      bus = b.0 ∷ [];
      net = [];
      reads = c.now.ensures;
      cut = (omega arith, omega arith, omega arith);
      does = stops_bus c.max-moment.result c.now.result c.args.number c.args.bridge.now is c.open.new.bridge _ _ c.in-Ok.ensures.does b.0 _ b.1;
    }

pub returns-in-Err-hear_net : goal.returns-in-Err-hear_net
returns-in-Err-hear_net g c =
    let is = c.max-moment.ensures ∙ ap (λ (k : ℕ). max c.now.result k) c.moment.ensures in
    let b = c.in-Ok-hear_bus.ensures.heard in
    let n = c.in-Err-hear_net.ensures.heard in
    record {
      reading = c.now.result;
      bus = b.0 ∷ [];
      net = n.0 ∷ [];
      reads = c.now.ensures;
      cut = (omega arith, omega arith, omega arith);
      does = stops_net c.max-moment.result c.now.result c.args.number c.args.bridge.now is c.open.new.bridge _ _ c.in-Ok.ensures.does b.0
          c.hear_bus.new.bridge _ b.1.1 n.0 _ n.2;
    }

pub returns : goal.returns
returns g c =
    let is = c.max-moment.ensures ∙ ap (λ (k : ℕ). max c.now.result k) c.moment.ensures in
    let b = c.in-Ok-hear_bus.ensures.heard in
    let n = c.in-Ok-hear_net.ensures.heard in
    let by_bus : Bool = c.in-Ok-hear_bus.heard in
    let by_net : Bool = c.in-Ok-hear_net.heard in
    let heard : Bool = c.if-by_bus.pass_time in
    let any : heard ≡ (by_bus || by_net) = elim c.if-by_bus.branch [
      | then-by_bus w ↦ w.pass_time-is ∙ w.if-by_bus.true ∙ ap (λ (h : Bool). h || by_net) (sym w.if-by_bus.true)
      | else-by_bus w ↦ w.pass_time-is ∙ ap (λ (h : Bool). h || by_net) (sym w.if-by_bus.false)
    ] in
    turn_taken c.args.number c.now.result b.0 n.0 c.args.bridge.now c.pass_time.new.bridge _ _ _ _ c.pass_time.result n.1 c.now.ensures
    (turns c.max-moment.result c.now.result c.args.number c.args.bridge.now is c.open.new.bridge _ _ c.in-Ok.ensures.does b.0 c.hear_bus.new.bridge _ b.1.1
    n.0 c.hear_net.new.bridge _ n.2.1 heard c.pass_time.new.bridge _ c.pass_time.result (any_event heard by_bus by_net _ _ any b.1.0 n.2.0) c.pass_time.ensures)
