use Rattle.std.proofs.Common.{◌∙◌}
use Rattle.datagram450.proofs.Datagrams.{is_found, is_read}
use Rattle.datagram450.proofs.Spelled.{line_found, line_read}
use Rattle.datagram450.proofs.Items.{each_is}
use Rattle.datagram450.proofs.line_iter.lines.Goals as goal

pub returns-clause-found : goal.returns-clause-found
returns-clause-found c = is_found c.args.bytes.now c.start.result c.start.ensures

pub returns-clause-each : goal.returns-clause-each
returns-clause-each c = each_is c.args.bytes.now c.start.result (is_found c.args.bytes.now c.start.result c.start.ensures)

pub returns-clause-only : goal.returns-clause-only
returns-clause-only c = λ items h. c.start.ensures ∙ is_read items c.args.bytes.now h

pub returns-clause-line_found : goal.returns-clause-line_found
returns-clause-line_found c = λ at bytes text said parts e. line_found at at bytes said text parts e

pub returns-clause-line_only : goal.returns-clause-line_only
returns-clause-line_only c = λ at bytes text said parts h. line_read at said text parts bytes h
