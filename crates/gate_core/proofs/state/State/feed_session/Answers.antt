use Rattle.std.proofs.Common.{◌≡◌, ap, sym, ◌∙◌}
use Rattle.n2k_id.specs.Frame.{bus_frame}
use Rattle.history.specs.Emits.{reported}
use Rattle.bus_messages.specs.Lent.{lent_message}
use Rattle.bus_messages.specs.SessionTold.{answer_in, heard_reports}
use Rattle.gate_outbox.specs.Output.{Emitted, Output, and_told, most_told}
use Rattle.gate_core.specs.contracts.state.State.{the_view}
use Rattle.gate_core.proofs.Carrying.{session_output}
use Rattle.gate_core.proofs.state.State.feed_session.Goals as goal

pub returns-clause-output : goal.returns-clause-output
returns-clause-output c =
    let g = the_view c.self.inside in
    let next : Output = record { emits = c.out-2.inside.emits; done = c.out-2.inside.done; selected = c.out-2.inside.selected; command = c.out-2.inside.command } in
    let own : c.own-own.result ≡ g.addresses.claims.own = c.own-own.ensures ∙ ap (λ z. z.addresses.claims.own) (sym c.self.view_is) in
    let gives = rw c.claims.ensures at (c.out-2.view_is ∙ c.complete.ensures.output) in
    let tells = c.hear-fed.ensures.emits
    ∙ ap (λ a. and_told most_told c.out.inside.emits (reported (heard_reports c.args.parts.now a))) (sym c.hear-fed.ensures.answer) in
    let replies = ap (λ (x : Emitted). let all : Output = record next { emits = x } in all) (rw own at c.reply.ensures.emits) in
    rw (← c.self.view_is, ← c.out.view_is)
    (session_output g c.args.moment (bus_frame c.args.frame.now) c.args.parts.now _ c.requires.parts (answer_in c.hear-fed.result) (lent_message c.message_in.result)
    c.hear-fed.new.out next _ (rw own at c.hear-fed.ensures.answer) tells c.message_in.ensures gives replies)

pub complete-requires : goal.complete-requires
complete-requires c = record {
  config = c.self.invariant;
  places = rw c.claims.ensures (rw (← c.self.view_is) at c.requires.stays.holders);
}
