-- What is made of what a file asks for is new.
use Rattle.std.proofs.Common.{ℕ, List, [], refl}
use Rattle.std.specs.Prelude.{Option, Some, None}
use Rattle.gate_events.specs.Emit.{Emit}
use Rattle.history.specs.Entries.{History}
use Rattle.history.specs.Settings.{Settings}
use Rattle.parts.specs.Compose.{maybe_output, maybe_stand}
use Rattle.parts.specs.Lanes.{IsLane, LaneKept, lane_output, lane_stands}
use Rattle.parts.specs.PartSteps.{AreNew, IsOpened}

-- a part with its place
pub lane_made : {R K E : Type 0} (stands : R → Settings → ℕ → History → K → Type 0) (output plain : E → List Emit) (o : Option R) (c : Settings) (part : K)
    (lane : LaneKept K E) → IsOpened (maybe_stand stands) o c (Some part) → IsLane stands output plain part lane
    → AreNew (maybe_stand (lane_stands stands)) (maybe_output (lane_output output)) (maybe_output (lane_output plain)) o c (Some lane)
lane_made stands output plain None c part lane opened is = record { stood = λ s. opened s; emits = is.emits; said = is.said }
lane_made stands output plain (Some r) c part lane opened is = record { stood = λ s. is.stood r c s [] (opened s); emits = is.emits; said = is.said }

-- none
pub none_made : {R K E : Type 0} (stands : R → Settings → ℕ → History → K → Type 0) (output plain : E → List Emit) (o : Option R) (c : Settings)
    → IsOpened (maybe_stand stands) o c None
    → AreNew (maybe_stand (lane_stands {E = E} stands)) (maybe_output (lane_output {K = K} output)) (maybe_output (lane_output {K = K} plain)) o c None
none_made stands output plain None c opened = record { stood = λ s. tt; emits = refl; said = refl }
none_made stands output plain (Some r) c opened = record { stood = λ s. opened s; emits = refl; said = refl }
