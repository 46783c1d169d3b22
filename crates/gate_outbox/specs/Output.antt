-- What a step of the gateway leaves: what is to be sent and reported, in its order, the message that it completed, whether that is selected,
-- and the command that it gives (ISO 11783-5, commanded address).
use Rattle.std.specs.Prelude.{ℕ, ◌+◌, ◌≤◌, nat_lt, Bool, true, false, if◌then◌else◌, List, [], ◌∷◌, ◌++◌, length, filter, Option, None, IfSome}
use Rattle.n2k_id.specs.Frame.{bus_frame}
use Rattle.readings.specs.Rows.{IsValid}
use Rattle.gate_events.specs.declared.emit.Emit.{Emit as Lent}
use Rattle.gate_events.specs.declared.emit.Emit.TheVariants as lent
use Rattle.gate_events.specs.Emit.{Emit, can, net, report}
use Rattle.gate_outbox.specs.declared.done.Done.{Done}
use Rattle.gate_outbox.specs.declared.done.Command.{Command}

-- what is told, in its order, and the datagram behind it, where it is there
pub record Emitted : Type 0 where
  pub told : List Emit
  pub posted : List Emit

abbrev pub no_emits : Emitted
no_emits = record { told = []; posted = [] }

abbrev pub emits_of : Emitted → List Emit
emits_of x = x.told ++ x.posted

-- one more behind those that are told, where there is room for it
abbrev pub one_told : ℕ → List Emit → Emit → List Emit
one_told room told e = if nat_lt (length told) room then told ++ e ∷ [] else told

-- more behind those that are told, as many as there is room for
abbrev pub told_with : ℕ → List Emit → List Emit → List Emit
told_with room told [] = told
told_with room told (e ∷ es) = told_with room (one_told room told e) es

abbrev pub and_told : ℕ → Emitted → List Emit → Emitted
and_told room x more = record { told = told_with room x.told more; posted = x.posted }

-- this datagram in the place of the one that was there
abbrev pub with_posted : Emitted → List Emit → Emitted
with_posted x posted = record { told = x.told; posted = posted }

-- what is posted, where it is there; else all stays
abbrev pub and_posted : Emitted → List Emit → Emitted
and_posted x [] = x
and_posted x (e ∷ es) = with_posted x (e ∷ es)

-- all that is left, behind what was there before
abbrev pub and_left : ℕ → Emitted → Emitted → Emitted
and_left room x more = and_posted (and_told room x more.told) more.posted

abbrev pub is_datagram : Emit → Bool
is_datagram (can frame) = false
is_datagram (net group bytes) = true
is_datagram (report what) = false

-- the most datagrams that are posted at an event: a frame completes at most one message, whose reading is said in one datagram with all
-- its sentences, and no other event says anything on the network (IEC 61162-450)
abbrev pub most_datagrams : ℕ
most_datagrams = 1

-- what holds of all emits where there is room for so many that are told
pub record IsEmitted (room : ℕ) (x : Emitted) : Type 0 where
  pub most : length (emits_of x) ≤ room + most_datagrams
  pub datagrams : length (filter is_datagram (emits_of x)) ≤ most_datagrams

-- ---- a step

pub record Output : Type 0 where
  pub emits : Emitted
  pub done : Option Done
  -- whether this message is selected
  pub selected : Bool
  pub command : Option Command

abbrev pub nothing : Output
nothing = record { emits = no_emits; done = None; selected = false; command = None }

-- the most that a step tells, and the most emits in all
abbrev pub most_told : ℕ
most_told = 4095

abbrev pub most_emits : ℕ
most_emits = most_told + most_datagrams

-- what holds of every outbox
pub record IsOutput (o : Output) : Type 0 where
  pub most : length (emits_of o.emits) ≤ most_emits
  pub datagrams : length (filter is_datagram (emits_of o.emits)) ≤ most_datagrams

-- what a message says of a row has its range
abbrev pub IsDoneValid : Option Done → Type 0
IsDoneValid done = IfSome done (λ d. IfSome d.reading IsValid)

-- the plain value of an emit that is lent
abbrev pub emit_of : Lent → Emit
emit_of (lent.Can frame) = can (bus_frame frame)
emit_of (lent.Net group bytes) = net group bytes.now
emit_of (lent.Report what) = report what
