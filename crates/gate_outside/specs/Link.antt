-- What a link tells, and what its calls do to it.
use Rattle.std.specs.Prelude.{◌≡◌, ◌≤◌, ℕ, Bool, true, false, List, [], ◌∷◌, ◌++◌, length, take, map, ⊤, Option, Some, None, Result, Ok, Err}
use Rattle.gate_outside.specs.declared.Failed.{Failed}
use Rattle.network_routes.specs.declared.Route.{Route}
use Rattle.network_routes.specs.declared.Routes.{Routes}
use Rattle.gate_outside.specs.declared.link.Arrival.{Arrival}
use Rattle.gate_outside.specs.declared.link.Arrival.TheVariants.{Bytes, Nothing}

-- how many bytes the text of an address may have
abbrev pub longest_address : ℕ
longest_address = 64

-- a group and the bytes that were handed over under it
abbrev pub Handed : Type 0
Handed = List ℕ × List ℕ

-- what a receive gave: bytes, nothing, or a failure
abbrev pub Outcome : Type 0
Outcome = Result (Option (List ℕ)) Failed

-- an address to listen at, the addresses of groups, and that of every other group
pub record Attachment : Type 0 where
  pub listen : List ℕ
  pub routes : List Handed
  pub other : List ℕ

-- What a link tells: what each receive gave, what was handed over, for each send whether it failed, and its last attachment.
pub record Traffic : Type 0 where
  pub received : List Outcome
  pub handed : List Handed
  pub sends : List Bool
  pub attached : Option Attachment

abbrev pub route_of : Route → Handed
route_of route = (route.group, route.address.items)

abbrev pub attachment : List ℕ → Routes → Attachment
attachment listen routes = record { listen = listen; routes = map route_of routes.list.items; other = routes.other.items }

-- Where the link tells, it told before, and what it tells went on so.
abbrev pub GoesOn : (Traffic → Traffic) → Option Traffic → Option Traffic → Type 0
GoesOn step old None = ⊤
GoesOn step None (Some new) = ⊥
GoesOn step (Some old) (Some new) = new ≡ step old

abbrev pub Attaches : List ℕ → Routes → Option Traffic → Option Traffic → Result (Unit {0}) Failed → Type 0
Attaches listen routes old new (Ok done) = GoesOn (λ t. record t { attached = Some (attachment listen routes) }) old new
Attaches listen routes old new (Err e) = GoesOn (λ t. t) old new

-- what an arrival in a buffer gave
abbrev pub outcome_of : List ℕ → Result Arrival Failed → Outcome
outcome_of buffer (Ok (Bytes count)) = Ok (Some (take count buffer))
outcome_of buffer (Ok Nothing) = Ok None
outcome_of buffer (Err e) = Err e

abbrev pub received_also : Outcome → Traffic → Traffic
received_also outcome t = record t { received = t.received ++ outcome ∷ [] }

abbrev pub Receives : List ℕ → Option Traffic → Option Traffic → Result Arrival Failed → Type 0
Receives buffer old new result = GoesOn (received_also (outcome_of buffer result)) old new

-- a number of bytes that the buffer holds
abbrev pub Fits : List ℕ → Result Arrival Failed → Type 0
Fits buffer (Ok (Bytes count)) = count ≤ length buffer
Fits buffer (Ok Nothing) = Unit {0}
Fits buffer (Err e) = Unit {0}

abbrev pub handed_also : Handed → Traffic → Traffic
handed_also pair t = record t { handed = t.handed ++ pair ∷ []; sends = t.sends ++ false ∷ [] }

abbrev pub failed_also : Traffic → Traffic
failed_also t = record t { sends = t.sends ++ true ∷ [] }

abbrev pub Sends : Handed → Option Traffic → Option Traffic → Result (Unit {0}) Failed → Type 0
Sends pair old new (Ok done) = GoesOn (handed_also pair) old new
Sends pair old new (Err e) = GoesOn failed_also old new
