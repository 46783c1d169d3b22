-- What an event says, as plain values.
use Rattle.std.specs.Prelude.{ℕ, List}
use Rattle.n2k_id.specs.Frame.{BusFrame, bus_frame}
use Rattle.n2k_id.specs.Frame as valid
use Rattle.gate_events.specs.declared.event.Event.{Event}
use Rattle.gate_events.specs.declared.event.Event.TheVariants as event

-- what a line says: a frame on the bus, a datagram on the network, or that time passes, each with its moment
pub data Seen : Type 0 where
  frame : ℕ → BusFrame → Seen
  datagram : ℕ → List ℕ → Seen
  tick : ℕ → Seen

abbrev pub moment_in : Seen → ℕ
moment_in (frame moment f) = moment
moment_in (datagram moment bytes) = moment
moment_in (tick moment) = moment

abbrev pub view : Event → Seen
view (event.Frame moment f) = frame moment (bus_frame f)
view (event.Datagram moment bytes) = datagram moment bytes.now
view (event.Tick moment) = tick moment

-- a frame in an event is valid
abbrev pub IsValid : Event → Type 0
IsValid (event.Frame moment f) = valid.IsFrame f
IsValid (event.Datagram moment bytes) = Unit {0}
IsValid (event.Tick moment) = Unit {0}
