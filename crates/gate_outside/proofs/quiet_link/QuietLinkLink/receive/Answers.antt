use Rattle.std.proofs.Common.{List, ℕ, map, subst, Ok}
use Rattle.std.specs.Prelude.{Option}
use Rattle.std.specs.Global.{Vec}
use Rattle.gate_outside.specs.Link.{Receives}
use Rattle.gate_outside.specs.LinkMemory.{QuietTraffic, arrival_of, arrival_at, traffic_of, IsArrivalThere}
use Rattle.gate_outside.proofs.Arrivals.{received_more, quiet}
use Rattle.gate_outside.proofs.quiet_link.QuietLinkLink.receive.Goals as goal

pub returns-in-Some-clause-told : goal.returns-in-Some-clause-told
returns-in-Some-clause-told c =
    let l = c.self.inside in
    let script = map arrival_of l.script.items in
    let there : IsArrivalThere c.arrival_at-arrival.new.buf (arrival_at script l.receives) c.arrival_at-arrival.result =
    subst (λ (s : List (Option (Vec ℕ))). IsArrivalThere c.arrival_at-arrival.new.buf (arrival_at (map arrival_of s) l.receives) c.arrival_at-arrival.result) c.deref.ensures.value c.arrival_at-arrival.ensures in
    subst (λ (q : QuietTraffic). Receives c.arrival_at-arrival.new.buf (traffic_of q) (traffic_of (quiet script c.in-Some.receives l.over.handed l.over.room l.over.most l.attached)) (Ok c.arrival_at-arrival.result)) c.self.view_is
    (received_more script l.receives c.in-Some.receives l.over.handed l.over.room l.over.most l.attached c.arrival_at-arrival.new.buf c.arrival_at-arrival.result c.in-Some.ensures.1 there)
