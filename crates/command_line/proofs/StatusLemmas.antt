-- How a command over the lines of a capture ends, by its status.
use Rattle.std.proofs.Common.{◌≡◌, ℕ, List, arith}
use Rattle.std.specs.Prelude.{Option}
use Rattle.capture_stream.specs.declared.ending.Ending.{Ending}
use Rattle.capture_stream.specs.declared.ending.Ending.TheVariants.{Done, SinkFailed, SourceFailed, TooLong}
use Rattle.capture_stream.specs.Progress.{Ends, Steady}
use Rattle.command_line.specs.Statuses.{EndsBy, SteadyBy, number, status_of}

pub ends_by : (IsText : List (List ℕ) → List ℕ → Type 0) (left left' told told' : Option (List ℕ)) (ending : Ending) → Ends IsText left left' told told' ending
    → EndsBy IsText left left' told told' (number (status_of ending))
ends_by IsText left left' told told' Done e = search (arith, e)
ends_by IsText left left' told told' SinkFailed e = search (arith, e)
ends_by IsText left left' told told' SourceFailed e = search (arith, e)
ends_by IsText left left' told told' TooLong e = search (arith, e)

-- the first call that fails decides the status too
pub steady_by : (source source' sink sink' : ℕ) (ending : Ending) → Steady source source' sink sink' ending → SteadyBy source source' sink sink' (number (status_of ending))
steady_by source source' sink sink' Done s = search (arith, s)
steady_by source source' sink sink' SinkFailed s = search (arith, s)
steady_by source source' sink sink' SourceFailed s = search (arith, s)
steady_by source source' sink sink' TooLong s = search (arith, s)

-- a command that reads nothing, and so has none of the statuses of a read
pub steady_unread : (source source' sink sink' status : ℕ) → source' ≡ source → (status ≡ 0 → sink' ≡ sink) → (status ≡ 5 → ⊥) → (status ≡ 8 → ⊥)
    → SteadyBy source source' sink sink' status
steady_unread source source' sink sink' status unread steady readable short = search (arith, unread, steady, readable, short)
