use Rattle.std.proofs.Common.{◌+◌, ◌-◌, ◌/◌, arith}
use Rattle.std.proofs.lemmas.List.Sums.{prefix_len-le-length}
use Rattle.std.specs.Prelude.{not}
use Rattle.source_choice.proofs.NoteLemmas.{not_before, past, upto}
use Rattle.source_choice.proofs.subject_notes.search.Goals as goal

pub loop-low-init : goal.loop-low-init
loop-low-init c = (omega arith, prefix_len-le-length (λ n. not (not_before c.args.source n)) c.args.notes.now, omega arith)

pub loop-low-preserved-then-notes-middle : goal.loop-low-preserved-then-notes-middle
loop-low-preserved-then-notes-middle c =
    let l = c.loop-low in
    let after = past 0 c.args.sources c.args.source (l.low + (l.high - l.low) / 2) _ c.args.notes.now c.requires.kept
    (omega (arith, l.invariant.2, c.loop-low-test.true)) c.if-notes-middle.true in
    (omega (arith, after), l.invariant.1, l.invariant.2)

pub loop-low-preserved : goal.loop-low-preserved
loop-low-preserved c =
    let l = c.loop-low in
    let upto_here = upto c.args.source (l.low + (l.high - l.low) / 2) _ c.args.notes.now
    (omega (arith, l.invariant.2, c.loop-low-test.true)) c.if-notes-middle.false in
    (l.invariant.0, upto_here, omega (arith, l.invariant.2, c.loop-low-test.true))
