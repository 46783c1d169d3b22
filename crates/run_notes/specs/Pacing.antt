-- When a line of standard error may be said.
use Rattle.std.specs.Prelude.{◌≡◌, ◌≤◌, ◌<◌, ℕ, true, false}
use Rattle.run_notes.specs.declared.pace.Pace.{Pace}
use Rattle.run_notes.specs.declared.trouble.Trouble.{Trouble}

-- Of one kind a line may be said once the moment has come, and while fewer than a hundred were said.
abbrev pub Allows : Pace → ℕ → Type 0
Allows pace now = (pace.from_us ≤ now) × (pace.lines < 100)

-- A call that failed and whose failure wasn't said: that may be said now.
abbrev pub SaysFailure : Trouble → Pace → ℕ → Type 0
SaysFailure trouble pace now = (trouble.is_said ≡ false) × Allows pace now

-- A call whose failure was said succeeds: that may be said now.
abbrev pub SaysEnd : Trouble → Pace → ℕ → Type 0
SaysEnd trouble pace now = (trouble.is_said ≡ true) × Allows pace now
