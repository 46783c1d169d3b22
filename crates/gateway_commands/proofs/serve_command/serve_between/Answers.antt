use Rattle.std.proofs.Common.{inr, arith}
use Rattle.gateway_commands.proofs.serve_command.serve_between.Goals as goal

-- both links are attached, and the turns end as those of a new bridge do
pub returns-in-Ok-clause-serves : goal.returns-in-Ok-clause-serves
returns-in-Ok-clause-serves g c = λ new. record {
  known = inr (inr c.take_turns.ensures.status);
  serves = λ is. record {
    bus = g.B.Link.traffic c.attach_both.new.bus;
    net = g.E.Link.traffic c.attach_both.new.net;
    bus_attached = c.in-Ok.ensures.0;
    net_attached = c.in-Ok.ensures.1;
    ends = c.take_turns.ensures.ends _ new;
  };
  unattached = λ is. let never : ⊥ = grind (arith, c.take_turns.ensures.status, is) in absurd never;
  sink_cause = c.take_turns.ensures.cause;
  complete = λ found bus_held net_held sink_held. c.take_turns.ensures.complete sink_held;
}
