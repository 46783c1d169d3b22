-- When what is kept of plotters stands for everything that ever came, and what is given of them.
use Rattle.std.specs.Prelude.{◌≡◌, ℕ, ◌<◌, ◌%◌, List, [], ◌∷◌, length, Some, option_map}
use Rattle.claim_table.specs.Claims.{places}
use Rattle.gate_events.specs.Emit.{Emit}
use Rattle.tag_block.specs.Tag.{most_count}
use Rattle.history.specs.AddressLaws.{AreSettings}
use Rattle.history.specs.Entries.{Entry, History, IsHistory, command, now}
use Rattle.history.specs.Messages.{Message, messages_of}
use Rattle.history.specs.Settings.{Settings}
use Rattle.gate_model.specs.ChoiceStands.{ChoicesStandFor}
use Rattle.gate_model.specs.Machine.{Machine}
use Rattle.gate_model.specs.Stands.{Stands}
use Rattle.gate_core.specs.Steps.{by_keys}
use Rattle.bus_listener.specs.Promises.{StandsListening}
use Rattle.navigation.specs.declared.course.Course.{Course}
use Rattle.navigation.specs.declared.course.TrackError.{TrackError}
use Rattle.navigation.specs.Courses.{first_index, last_error, legs_in, stretch, that_hold}
use Rattle.navigation.specs.Kept.{NavKept, course_at, no_course}
use Rattle.navigation.specs.Legs.{error_in, goal_in, kind_of}
use Rattle.navigation.specs.NavOut.{holders_at, leg_told, lines_said, nav_out, nav_receiver}
use Rattle.navigation.specs.NavRule.{NavRule}

-- ---- the course of an address by its messages that hold, the last first: the goal of its last leg, and the last error behind the first leg of the
-- stretch that ends with it

abbrev pub as_error : Message → TrackError
as_error d = record { moment = d.moment; distance = error_in d.payload }

abbrev pub course_of_legs : List Message → List Message → Course
course_of_legs messages [] = no_course
course_of_legs messages (leg ∷ legs) = record {
  goal = Some (goal_in leg.payload);
  error = option_map as_error (last_error (first_index leg.index (stretch (goal_in leg.payload) legs)) messages);
}

abbrev pub course_of : List Message → Course
course_of messages = course_of_legs messages (legs_in messages)

-- the courses are those of every address that a device can have
pub record StandsCourses (x : NavRule) (c : Settings) (s : ℕ) (h : History) (courses : List Course) : Type 0 where
  pub count : length courses ≡ places
  pub each : (a : ℕ) → a < places → course_at courses a ≡ course_of (that_hold (holders_at x c s h) (messages_of (nav_receiver x c) s h) a)

-- what is kept stands for a history of the gateway with these settings
pub record StandsNav (x : NavRule) (c : Settings) (s : ℕ) (h : History) (k : NavKept) : Type 0 where
  pub rule : k.rule ≡ x
  pub sfi : k.sfi ≡ c.sfi
  pub slots : StandsListening kind_of x.slots c s h k.slots
  pub choices : ChoicesStandFor leg_told (λ subject. x.taken) 1 (nav_receiver x c) s h k.choices
  pub courses : StandsCourses x c s h k.courses
  pub lines : k.lines ≡ lines_said x c s h % most_count

-- the start
abbrev pub IsNavOpening : NavRule → List ℕ → NavKept → Type 0
IsNavOpening x sfi k = (c : Settings) (s : ℕ) → c.sfi ≡ sfi → StandsNav x c s [] k

-- an event that the gateway has taken: what is left stands for the history with it, and all that the history says is emitted
pub record IsNavTaken (x : NavRule) (c : Settings) (s : ℕ) (h : History) (e : Entry) (after : NavKept) (left : List Emit) : Type 0 where
  pub stands : StandsNav x c s (e ∷ h) after
  pub emits : left ≡ nav_out x c s h e

-- for every history for which it stands before the event, where the gateway has taken the event
abbrev pub IsNavStep : Machine → Entry → NavKept → NavKept → List Emit → Type 0
IsNavStep gateway e before after left =
    (x : NavRule) (s : ℕ) (h : History) → AreSettings gateway.settings → IsHistory (e ∷ h) → Stands by_keys gateway.settings s (e ∷ h) gateway
    → StandsNav x gateway.settings s h before → IsNavTaken x gateway.settings s h e after left

-- a command to go to an address is no event for it
abbrev pub CommandsKeepNav : Type 0
CommandsKeepNav =
    (x : NavRule) (c : Settings) (s : ℕ) (h : History) (source address : ℕ) (k : NavKept) → AreSettings c → StandsNav x c s h k
    → StandsNav x c s (command (now h) source address ∷ h) k
