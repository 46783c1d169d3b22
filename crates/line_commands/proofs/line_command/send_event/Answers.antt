use Rattle.std.proofs.Common.{refl}
use Rattle.gate_events.specs.Event.{view}
use Rattle.line_commands.specs.Show.{seen_text}
use Rattle.line_commands.proofs.line_command.send_event.Goals as goal

pub returns-in-Show-clause-sent : goal.returns-in-Show-clause-sent
returns-in-Show-clause-sent g c = (seen_text c.args.number (view c.args.event.now), rw c.in-Show.is refl, c.send_event-in-Show.ensures.sent)
