-- A replay that nothing stops does its work.
use Rattle.std.proofs.Common.{◌≡◌, ◌≤◌, ◌+◌, ℕ, List, length, length-append, refl, ap, subst, arith}
use Rattle.std.specs.Prelude.{Option, Some, None}
use Rattle.gate_outside.specs.Faults.{Rose}
use Rattle.gate_outside.specs.Told.{Leaves}
use Rattle.capture_stream.specs.declared.ending.Ending.{Ending}
use Rattle.capture_stream.specs.declared.ending.Ending.TheVariants.{Done, SinkFailed, SourceFailed, TooLong}
use Rattle.capture_stream.specs.Progress.{Ends, input_limit}
use Rattle.command_line.specs.Statuses.{IsUnhindered, number, status_of}

left_by : (bytes : List ℕ) (left' : Option (List ℕ)) (read : List ℕ) → Leaves (Some bytes) left' read → length read ≤ length bytes
left_by bytes None read leaves = absurd leaves
left_by bytes (Some rest) read leaves = omega (arith, ap length leaves, length-append read rest)

within : (n k limit : ℕ) → n ≤ k → k ≤ limit → n ≡ limit + 1 → ⊥
within n k limit le most beyond = omega (arith, le, most, beyond)

pub unhindered : (IsText : List (List ℕ) → List ℕ → Type 0) (left left' told told' : Option (List ℕ)) (source source' sink sink' : ℕ) (ending : Ending)
    → Ends IsText left left' told told' ending → (ending ≡ SourceFailed → Rose source source') → (ending ≡ SinkFailed → Rose sink sink')
    → IsUnhindered left source source' sink sink' → number (status_of ending) ≡ 0
unhindered IsText left left' told told' source source' sink sink' Done ends reads writes held = refl
unhindered IsText left left' told told' source source' sink sink' SinkFailed ends reads writes held = absurd (held.sink_held (writes refl))
unhindered IsText left left' told told' source source' sink sink' SourceFailed ends reads writes held = absurd (held.source_held (reads refl))
unhindered IsText left left' told told' source source' sink sink' TooLong ends reads writes held =
    let leaves = subst (λ (x : Option (List ℕ)). Leaves x left' ends.read) held.told ends.leaves in
    absurd (within (length ends.read) (length held.bytes) input_limit (left_by held.bytes left' ends.read leaves) held.within ends.beyond)
