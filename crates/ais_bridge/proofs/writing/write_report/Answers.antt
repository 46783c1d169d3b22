use Rattle.std.proofs.Common.{ap, ◌∙◌}
use Rattle.datagram450.specs.Datagram.{sentence_datagram}
use Rattle.ais_bridge.specs.Reports.{report_datagram}
use Rattle.ais_bridge.proofs.writing.write_report.Goals as goal

pub report_sentence-line-requires : goal.report_sentence-line-requires
report_sentence-line-requires c = record { valid = c.requires.valid }

pub write_sentence-requires-clause-empty : goal.write_sentence-requires-clause-empty
write_sentence-requires-clause-empty c = c.requires.empty

pub returns : goal.returns
unfolding report_datagram
returns c = c.write_sentence.ensures ∙ ap (sentence_datagram c.args.source c.args.before) (c.deref.ensures.0 ∙ c.report_sentence-line.ensures.text)
