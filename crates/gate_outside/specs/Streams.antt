-- Readers and writers of std as a source and a sink, as their calls see them.
use Rattle.std.specs.Prelude.{ℕ}

-- a reader or a writer, and how often a call on it failed
pub record Stream (S : Type 0) : Type 0 where
  pub stream : S
  pub faults : ℕ
