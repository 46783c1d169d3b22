-- The place lies between the two, and the part is smaller each time.
use Rattle.std.proofs.Common.{◌-◌, ◌≤◌, length}
use Rattle.source_choice.proofs.NoteLemmas.{place}
use Rattle.source_choice.proofs.subject_notes.search.Given as goal

abbrev pub invariant-loop-low : goal.invariant-loop-low
invariant-loop-low l = (l.low ≤ place l.source l.notes) × (place l.source l.notes ≤ l.high) × (l.high ≤ length l.notes)

abbrev pub decreases-loop-low : goal.decreases-loop-low
decreases-loop-low l = l.high - l.low
