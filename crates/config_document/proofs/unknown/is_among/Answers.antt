use Rattle.std.proofs.Common.{[], refl}
use Rattle.std.proofs.Math.Seq.{drop-cons}
use Rattle.config_document.proofs.unknown.is_among.Goals as goal

pub returns-then-eq : goal.returns-then-eq
returns-then-eq c =
    rw (← c.loop-word.invariant, drop-cons c.args.known.now c.loop-word.word-index (record { ref_ptr = (0, 0); now = [] }) c.loop-word-test.true, ← c.if-eq.ensures) refl
