-- Why a connection is aborted (ISO 11783-3, connection abort reasons).
use Rattle.std.specs.Prelude.{ℕ}

-- the node is already in connection managed sessions, and can't support another
abbrev pub cannot_support_another : ℕ
cannot_support_another = 1

-- system resources were needed for another task; also where a frame doesn't fit its session, and where no message has the size
abbrev pub resources_needed : ℕ
resources_needed = 2

-- a timeout occurred
abbrev pub timeout : ℕ
timeout = 3
