use Rattle.std.proofs.Common.{sym, ap, subst, ◌∙◌}
use Rattle.datagram450.specs.Datagram.{read}
use Rattle.gate_model.specs.Machine.{Machine}
use Rattle.gate_model.specs.NetLines.{NetKept, datagram_after, datagram_emits}
use Rattle.config_values.specs.Settings.{settings_by}
use Rattle.gate_outbox.specs.Output.{and_told, most_told}
use Rattle.gate_core.specs.contracts.state.State.{the_view}
use Rattle.gate_core.specs.Steps.{Stays, by_keys}
use Rattle.gate_core.proofs.Hearing.{still_listed}
use Rattle.gate_core.proofs.state.State.hear.Goals as goal

pub datagram-requires : goal.datagram-requires
datagram-requires c =
    record {
      hears =
          still_listed (the_view c.self.inside) c.hearing_of-hearing.result (subst (λ z. Stays z) (sym c.self.view_is) c.requires.stays) c.hearing_of-hearing.ensures.heard
          c.hearing_of-hearing.ensures.few;
    }

pub returns-clause-after : goal.returns-clause-after
returns-clause-after c =
    let settings = settings_by c.self.inside.config in
    let net : NetKept = c.self.inside.network in
    ap (λ k. let g : Machine = record (the_view c.self.inside) { network = k } in g)
    (c.datagram.ensures.after settings c.hearing_of-hearing.ensures.heard
    ∙ ap (λ came. datagram_after by_keys.groups settings came.moment came.ready net (read c.args.bytes.now)) c.hearing_of-hearing.ensures.came)
    ∙ ap (λ z. let g : Machine = record z { network = datagram_after by_keys.groups z.settings c.args.came.moment c.args.came.ready z.network (read c.args.bytes.now) } in g)
    c.self.view_is

pub returns-clause-emits : goal.returns-clause-emits
returns-clause-emits c =
    let settings = settings_by c.self.inside.config in
    let net : NetKept = c.self.inside.network in
    c.datagram.ensures.emits settings c.hearing_of-hearing.ensures.heard
    ∙ ap (λ came. and_told most_told c.args.out.now (datagram_emits by_keys.groups settings came.moment came.ready came.own net (read c.args.bytes.now)))
    c.hearing_of-hearing.ensures.came
    ∙ ap (λ z. and_told most_told c.args.out.now (datagram_emits by_keys.groups z.settings c.args.came.moment c.args.came.ready c.args.came.own z.network
    (read c.args.bytes.now))) c.self.view_is
