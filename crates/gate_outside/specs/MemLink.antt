-- A link in memory that fails at the calls that it is told to, as its calls see it.
use Rattle.std.specs.Prelude.{ℕ, zero, suc, ◌+◌, ◌-◌, nat_le, Bool, true, false, ◌==◌, if◌then◌else◌, min, List, [], ◌∷◌, ◌++◌, Option, Some, None, Result, Ok, Err}
use Rattle.std.specs.List.{list_any}
use Rattle.gate_outside.specs.declared.Failed.{Failed}
use Rattle.gate_outside.specs.declared.link.Arrival.{Arrival}
use Rattle.gate_outside.specs.Faults.{Script, last_count, one_more, fails_next, after_call}
use Rattle.gate_outside.specs.Link.{Handed, Outcome, Traffic, Attachment}
use Rattle.gate_outside.specs.LinkMemory.{HandedOver, told_after, arrival_at, IsArrivalThere}

pub record MemTraffic : Type 0 where
  -- what comes
  pub script : List (Option (List ℕ))
  -- which receives fail, and which sends
  pub receives : Script
  pub sends : Script
  -- whether each attach fails, and how many did
  pub attach_fails : Bool
  pub attach_faults : ℕ
  -- what was handed over
  pub over : HandedOver
  pub attached : Option Attachment

-- whether the call of a number is one of those that fail
abbrev pub fails_at : List ℕ → ℕ → Bool
fails_at failing number = list_any (λ n. n == number) failing

-- how many of the first calls fail
abbrev pub failed_of : List ℕ → ℕ → ℕ
failed_of failing zero = 0
failed_of failing (suc count) = failed_of failing count + (if fails_at failing (count + 1) then 1 else 0)

-- what the receive at a place gives: a failure takes nothing from the script
abbrev pub outcome_at : List (Option (List ℕ)) → List ℕ → ℕ → Outcome
outcome_at script failing place = if fails_at failing (place + 1) then Err record {} else Ok (arrival_at script (place - failed_of failing place))

-- what the first receives gave
abbrev pub outcomes : List (Option (List ℕ)) → List ℕ → ℕ → List Outcome
outcomes script failing zero = []
outcomes script failing (suc count) = outcomes script failing count ++ outcome_at script failing count ∷ []

-- for each of the first sends whether it failed
abbrev pub failures : List ℕ → ℕ → List Bool
failures failing zero = []
failures failing (suc count) = failures failing count ++ fails_at failing (count + 1) ∷ []

abbrev pub mem_traffic_with : MemTraffic → List Handed → Traffic
mem_traffic_with m pairs = record {
  received = outcomes m.script m.receives.failing m.receives.calls;
  handed = pairs;
  sends = failures m.sends.failing m.sends.calls;
  attached = m.attached;
}

-- what it tells
abbrev pub mem_told_by : MemTraffic → Option (List Handed) → Option Traffic
mem_told_by m None = None
mem_told_by m (Some pairs) = Some (mem_traffic_with m pairs)

abbrev pub mem_traffic_of : MemTraffic → Option Traffic
mem_traffic_of m = mem_told_by m m.over.handed

-- how often a call failed, of whichever kind
abbrev pub link_faults : MemTraffic → ℕ
link_faults m = min (min (m.attach_faults + m.receives.faults) last_count + m.sends.faults) last_count

-- what is told once a call was counted: nothing from the call on that a count can't tell
abbrev pub told_once_counted : HandedOver → ℕ → HandedOver
told_once_counted over calls = record over { handed = if nat_le last_count calls then None else over.handed }

-- the link after an attach, a receive and a send
abbrev pub after_attach : MemTraffic → Attachment → MemTraffic
after_attach m attachment = record m {
  attach_faults = if m.attach_fails then one_more m.attach_faults else m.attach_faults;
  attached = if m.attach_fails then m.attached else Some attachment;
}

abbrev pub after_receive : MemTraffic → MemTraffic
after_receive m = record m {
  receives = after_call m.receives (fails_next m.receives);
  over = told_once_counted m.over m.receives.calls;
}

abbrev pub handed_over : HandedOver → Bool → Handed → HandedOver
handed_over over true pair = over
handed_over over false pair = record over { handed = told_after over.handed over.room over.most pair }

abbrev pub after_send : MemTraffic → Handed → MemTraffic
after_send m pair = record m {
  sends = after_call m.sends (fails_next m.sends);
  over = handed_over (told_once_counted m.over m.sends.calls) (fails_next m.sends) pair;
}

-- A call fails exactly where it is one of those that do.
abbrev pub FailsBy : {T : Type 0} → Bool → Result T Failed → Type 0
FailsBy true (Ok value) = ⊥
FailsBy true (Err e) = Unit {0}
FailsBy false (Ok value) = Unit {0}
FailsBy false (Err e) = ⊥

-- A receive gives the next entry of the script, where it isn't one of those that fail.
abbrev pub GivesNext : MemTraffic → List ℕ → Bool → Result Arrival Failed → Type 0
GivesNext m buffer true (Ok arrival) = ⊥
GivesNext m buffer true (Err e) = Unit {0}
GivesNext m buffer false (Ok arrival) = IsArrivalThere buffer (arrival_at m.script (m.receives.calls - m.receives.faults)) arrival
GivesNext m buffer false (Err e) = ⊥
