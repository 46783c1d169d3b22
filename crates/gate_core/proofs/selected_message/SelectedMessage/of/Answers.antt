use Rattle.gate_core.proofs.Picks.{is_picked}
use Rattle.gate_core.proofs.selected_message.SelectedMessage.of.Goals as goal

pub returns-clause-selected : goal.returns-clause-selected
returns-clause-selected c =
    is_picked c.args.gateway.now c.args.outbox.now c.moment.result c.picked.result c.moment.ensures.moment c.picked.ensures.selected
