-- How many heartbeats are due grows with the moment, and an event is due where it grew.
use Rattle.std.proofs.Common.{◌≡◌, ℕ, zero, suc, ◌-◌, ◌*◌, ◌/◌, ◌≤◌, false, refl, arith}
use Rattle.std.specs.Prelude.{nat_lt}
use Rattle.std.proofs.Math.Nat.{div-mul-le_self}
use Rattle.std.proofs.lemmas.Bool.{ltb-false}
use Rattle.std.proofs.lemmas.Nat.{le-div}
use Rattle.gate_events.specs.declared.event.Event.{Event}
use Rattle.gate_events.specs.declared.event.Event.TheVariants as event
use Rattle.parts.specs.Steps.{entry_of}
use Rattle.history.specs.Entries.{History, IsTimely, moment_of, now}
use Rattle.heartbeats.specs.Due.{due_by, is_due}

-- whole intervals are no longer than all that passed
pub whole_intervals : (passed interval : ℕ) → interval * (passed / interval) ≤ passed
whole_intervals passed interval = omega (arith, div-mul-le_self passed interval)

div_up : (a b k : ℕ) → a ≤ b → a / k ≤ b / k
div_up a b zero le = omega arith
div_up a b (suc k) le = le-div (a / suc k) b (suc k) (omega arith) (omega (arith, le, div-mul-le_self a (suc k)))

pub due_up : (every s a b : ℕ) → a ≤ b → due_by every s a ≤ due_by every s b
due_up every s a b le = div_up (a - s) (b - s) (1000000 * every) (omega (arith, le))

-- where no more are due, as many are
pub same_due : (every s a b : ℕ) → a ≤ b → nat_lt (due_by every s a) (due_by every s b) ≡ false → due_by every s a ≡ due_by every s b
same_due every s a b le none = omega (arith, due_up every s a b le, ltb-false (due_by every s a) (due_by every s b) none)

-- ---- an event that the gateway has taken

pub event_due : (every s : ℕ) (h : History) (x : Event) → is_due every s h (entry_of x) ≡ nat_lt (due_by every s (now h)) (due_by every s (moment_of (entry_of x)))
event_due every s h (event.Frame moment frame) = refl
event_due every s h (event.Datagram moment bytes) = refl
event_due every s h (event.Tick moment) = refl

pub event_timely : (h : History) (x : Event) → IsTimely h (entry_of x) → now h ≤ moment_of (entry_of x)
event_timely h (event.Frame moment frame) is = is
event_timely h (event.Datagram moment bytes) is = is
event_timely h (event.Tick moment) is = is
