-- What each status of `demo` says of what was written.
use Rattle.std.specs.Prelude.{◌≡◌, ◌≢◌, ℕ, List, Option}
use Rattle.demo.specs.Demo.{demo_text}
use Rattle.gate_outside.specs.Faults.{Rose}
use Rattle.command_line.specs.declared.statuses.Status.TheVariants as statuses
use Rattle.command_line.specs.Statuses.{IsDemoStatus, WritesBy, number}

pub record DemosBy (seed count : ℕ) (told told' : Option (List ℕ)) (sink sink' status : ℕ) : Type 0 where
  pub known : IsDemoStatus status
  pub writes : WritesBy (demo_text seed count) told told' status
  pub sink_cause : status ≡ number statuses.SinkFailed → Rose sink sink'
  pub steady : status ≡ number statuses.Done → sink' ≡ sink
  -- where memory was found and nothing fails, the line is written
  pub complete : status ≢ number statuses.NoMemory → (Rose sink sink' → ⊥) → status ≡ number statuses.Done
