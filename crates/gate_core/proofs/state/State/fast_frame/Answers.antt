use Rattle.std.proofs.Common.{refl, ap, ◌∙◌, option_map}
use Rattle.n2k_id.specs.Frame.{bus_frame}
use Rattle.history.specs.Messages.{carried}
use Rattle.bus_messages.specs.Lent.{lent_message}
use Rattle.gate_core.specs.contracts.state.State.{the_view}
use Rattle.gate_core.proofs.Carrying.{fast_output}
use Rattle.gate_core.proofs.state.State.fast_frame.Goals as goal

pub returns-clause-output : goal.returns-clause-output
returns-clause-output c =
    let gives = rw c.claims.ensures at c.complete.ensures.output in
    rw (← c.self.view_is, ← c.out.view_is)
    (fast_output (the_view c.self.inside) c.args.moment (bus_frame c.args.frame.now) c.args.parts.now _ c.requires.parts _ (lent_message c.message_of.result) c.hear-payload.new.out
    c.complete.new.out refl c.hear-payload.ensures.emits
    (c.message_of.ensures ∙ ap (option_map (carried c.args.parts.now.pgn)) c.hear-payload.ensures.payload) gives)

pub complete-requires : goal.complete-requires
complete-requires c = record {
  config = c.self.invariant;
  places = rw c.claims.ensures (rw (← c.self.view_is) at c.requires.stays.holders);
}
