use Rattle.std.proofs.Common.{subst, sym}
use Rattle.capture_stream.specs.Answering.{LineGives}
use Rattle.capture_stream.specs.Lines.{IsTextFrom}
use Rattle.capture_stream.proofs.EndLemmas.{ends_as}
use Rattle.line_commands.specs.declared.line_command.Lines.{Lines}
use Rattle.line_commands.specs.LineCommand.{IsAnswer, AreTextsOf}
use Rattle.line_commands.proofs.LineCommandLemmas.{are_texts_of}
use Rattle.command_line.specs.declared.statuses.Status.{Status}
use Rattle.command_line.specs.Statuses.{EndsBy, SteadyBy, number}
use Rattle.command_line.proofs.StatusLemmas.{ends_by, steady_by}
use Rattle.line_commands.proofs.line_command.answer_lines.Goals as goal

pub returns-clause-ends : goal.returns-clause-ends
returns-clause-ends g c =
    let lines : Lines = record { command = c.args.command } in
    let left = g.S.Source.left c.args.input.now in
    let left' = g.S.Source.left c.answer_capture.new.input in
    let told = g.K.Sink.taken c.args.out.now in
    let told' = g.K.Sink.taken c.answer_capture.new.out in
    subst (λ (s : Status). EndsBy (AreTextsOf c.args.command) left left' told told' (number s)) (sym c.status_of.ensures.status)
    (ends_by (AreTextsOf c.args.command) left left' told told' c.answer_capture.result
    (ends_as (IsTextFrom (LineGives IsAnswer) lines) (AreTextsOf c.args.command) left left' told told' c.answer_capture.result (are_texts_of lines) c.answer_capture.ensures.ends))

pub returns-clause-steady : goal.returns-clause-steady
returns-clause-steady g c =
    let source = g.S.Source.fault_count c.args.input.now in
    let source' = g.S.Source.fault_count c.answer_capture.new.input in
    let sink = g.K.Sink.fault_count c.args.out.now in
    let sink' = g.K.Sink.fault_count c.answer_capture.new.out in
    subst (λ (s : Status). SteadyBy source source' sink sink' (number s)) (sym c.status_of.ensures.status)
    (steady_by source source' sink sink' c.answer_capture.result c.answer_capture.ensures.steady)
