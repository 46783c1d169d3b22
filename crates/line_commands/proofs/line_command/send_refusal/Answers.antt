use Rattle.std.proofs.Common.{refl}
use Rattle.capture_text.specs.LineRule.{rule_number}
use Rattle.line_commands.specs.Convert.{refusal}
use Rattle.line_commands.specs.Show.{rule_text}
use Rattle.line_commands.proofs.line_command.send_refusal.Goals as goal

pub returns-in-Convert-clause-sent : goal.returns-in-Convert-clause-sent
returns-in-Convert-clause-sent g c = (refusal (rule_number c.args.rule) c.args.number, rw c.in-Convert.is refl, c.send_refusal.ensures.sent)

pub returns-in-Show-clause-sent : goal.returns-in-Show-clause-sent
returns-in-Show-clause-sent g c = (rule_text c.args.number (rule_number c.args.rule), rw c.in-Show.is refl, c.send_refusal-in-Show.ensures.sent)
