-- What a gateway emits, as plain values.
use Rattle.std.specs.Prelude.{ℕ, ◌≤◌, List, length}
use Rattle.n2k_id.specs.Frame.{IsFrame, BusFrame}
use Rattle.gate_events.specs.declared.emit.Report.{Report}
use Rattle.gate_events.specs.declared.emit.Emit.{Emit as Lent}
use Rattle.gate_events.specs.declared.emit.Emit.TheVariants as lent

pub data Emit : Type 0 where
  -- a frame for the bus
  can : BusFrame → Emit
  -- a datagram for a transmission group of the network
  net : List ℕ → List ℕ → Emit
  report : Report → Emit

-- with its moment
pub record Emitted : Type 0 where
  pub moment : ℕ
  pub emit : Emit

-- ---- what can be written of it

-- the most bytes of a datagram that is written
abbrev pub most_written : ℕ
most_written = 512

-- a frame is valid, and a datagram isn't too long
abbrev pub CanWrite : Lent → Type 0
CanWrite (lent.Can f) = IsFrame f
CanWrite (lent.Net group bytes) = length bytes.now ≤ most_written
CanWrite (lent.Report r) = Unit {0}
