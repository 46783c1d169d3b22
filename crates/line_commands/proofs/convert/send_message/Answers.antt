use Rattle.std.proofs.Common.{sym}
use Rattle.line_commands.proofs.convert.send_message.Goals as goal

pub returns-in-Single-clause-sent : goal.returns-in-Single-clause-sent
returns-in-Single-clause-sent g c =
    let sent = c.send_payload.ensures.sent in (sent.0, rw (sym c.in-Single.ensures) (rw c.read_in_place.ensures.value at sent.1), sent.2)
