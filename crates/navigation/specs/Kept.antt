-- What is kept of plotters, as plain values, and what an event makes of it and gives. Nothing here speaks of what came before.
use Rattle.std.specs.Prelude.{ℕ, ◌+◌, ◌*◌, ◌%◌, ℤ, Bool, false, ◌&&◌, nat_le, nat_lt, List, [], ◌∷◌, ◌++◌, length, replicate, slice_index_or, slice_set, Option, Some, None, option_map, ◌==◌, if◌then◌else◌}
use Rattle.slot_views.specs.Slots.{SlotMap}
use Rattle.fast_packet.specs.declared.key.FastKey.{FastKey}
use Rattle.report_rules.specs.Rules as rules
use Rattle.gate_events.specs.Emit.{Emit}
use Rattle.readings.specs.Ranges as ranges
use Rattle.readings.specs.Ranges.{Admits}
use Rattle.tag_block.specs.Tag.{most_count}
use Rattle.claim_table.specs.Claims.{places}
use Rattle.source_choice.specs.declared.rank.Rank.{Rank}
use Rattle.source_choice.specs.Choices.{Choices, opened, subject_at}
use Rattle.source_choice.specs.Notes.{is_selected}
use Rattle.source_choice.specs.SubjectRules.{rank_of}
use Rattle.history.specs.Emits.{of_source}
use Rattle.history.specs.Entries.{Entry}
use Rattle.gate_model.specs.Addresses.{Changed}
use Rattle.gate_model.specs.Choosing.{is_ranked_chosen, ranked_after}
use Rattle.gate_model.specs.Machine.{Machine}
use Rattle.gate_model.specs.Said.{Complete}
use Rattle.gate_outbox.specs.Output.{Emitted}
use Rattle.bus_listener.specs.Kept.{Hearing}
use Rattle.bus_listener.specs.Noting.{forgotten_of, has_place}
use Rattle.bus_listener.specs.Promises as listening
use Rattle.counted_lines.specs.CountedLines.{posted_of}
use Rattle.navigation.specs.declared.course.Course.{Course}
use Rattle.navigation.specs.declared.course.TrackError.{TrackError}
use Rattle.navigation.specs.declared.leg.Goal.{Goal}
use Rattle.navigation.specs.declared.leg.Leg.{Leg}
use Rattle.navigation.specs.declared.said.Said.{Said}
use Rattle.navigation.specs.declared.said.Says.{Says}
use Rattle.navigation.specs.declared.said.Says.TheVariants as says
use Rattle.navigation.specs.Legs.{IsLeg, error_in, error_pgn, goal_in, is_same, kind_of, leg_in, leg_pgn, least_leg}
use Rattle.navigation.specs.NavOut.{is_usable, told_by}
use Rattle.navigation.specs.NavRule.{NavRule}
use Rattle.navigation.specs.Sentences.{leg_texts}

pub record NavKept : Type 0 where
  pub rule : NavRule
  -- the system function identifier by which the gateway speaks
  pub sfi : List ℕ
  -- the legs in the making
  pub slots : SlotMap FastKey
  -- when each source said a leg last, where a source is an address of the bus
  pub choices : Choices
  -- where each address goes
  pub courses : List Course
  -- how many lines were said, modulo the greatest count
  pub lines : ℕ

-- ---- where an address goes

abbrev pub no_course : Course
no_course = record { goal = None; error = None }

abbrev pub no_courses : List Course
no_courses = replicate places no_course

abbrev pub is_goal : Goal → Option Goal → Bool
is_goal goal None = false
is_goal goal (Some named) = is_same named goal

abbrev pub is_named : Goal → Course → Bool
is_named goal course = is_goal goal course.goal

abbrev pub with_leg : Goal → Course → Course
with_leg goal course = if is_named goal course then course else record { goal = Some goal; error = None }

abbrev pub behind_goal : TrackError → Course → Option Goal → Course
behind_goal error course None = course
behind_goal error course (Some goal) = record { goal = Some goal; error = Some error }

abbrev pub with_error : TrackError → Course → Course
with_error error course = behind_goal error course course.goal

-- the error that isn't older at a moment than the timeout
abbrev pub fresh_distance : ℕ → ℕ → Option TrackError → Option ℤ
fresh_distance timeout m None = None
fresh_distance timeout m (Some error) = if nat_le m (error.moment + 1000 * timeout) then error.distance else None

-- beside a leg of this goal
abbrev pub error_with : Goal → ℕ → ℕ → Course → Option ℤ
error_with goal timeout m course = if is_named goal course then fresh_distance timeout m course.error else None

abbrev pub course_at : List Course → ℕ → Course
course_at courses address = slice_index_or courses address no_course

-- each error is in its range
abbrev pub IsErrorSound : Option TrackError → Type 0
IsErrorSound None = Unit {0}
IsErrorSound (Some error) = Admits ranges.cross_track error.distance

abbrev pub IsCourseSound : Course → Type 0
IsCourseSound course = IsErrorSound course.error

abbrev pub AreCoursesSound : List Course → Type 0
AreCoursesSound courses = (a : ℕ) → IsCourseSound (course_at courses a)

-- the address that was left, and the one that was won, go nowhere that is known
abbrev pub course_forgotten : Option ℕ → List Course → List Course
course_forgotten None courses = courses
course_forgotten (Some a) courses = if has_place a then slice_set courses a no_course else courses

abbrev pub courses_forgotten : Changed → List Course → List Course
courses_forgotten changed courses = course_forgotten changed.won (course_forgotten changed.left courses)

-- ---- the start

abbrev pub nav_opened : NavRule → List ℕ → NavKept
nav_opened x sfi = record {
  rule = x;
  sfi = sfi;
  slots = record { limit = x.slots; entries = [] };
  choices = opened places (x.taken.timeout ∷ []);
  courses = no_courses;
  lines = 0;
}

-- the most that an event tells: of each of 256 legs in the making once, of a frame twice, and of the leg that is complete once
abbrev pub most_told : ℕ
most_told = 259

-- ---- a message of a plotter

abbrev pub says_in : ℕ → List ℕ → Says
says_in pgn payload =
    if pgn == leg_pgn then (if nat_lt (length payload) least_leg then says.Short else says.Leg (leg_in payload) (goal_in payload))
    else if pgn == error_pgn then (if nat_lt (length payload) 6 then says.Nothing else says.Error (error_in payload)) else says.Nothing

abbrev pub said_of : Complete → Said
said_of d = record { moment = d.moment; source = d.source; name = record { 0 = d.name }; pgn = d.pgn; says = says_in d.pgn d.payload }

-- what it says is in its ranges
abbrev pub IsSound : Says → Type 0
IsSound (says.Leg leg goal) = IsLeg leg
IsSound (says.Error distance) = Admits ranges.cross_track distance
IsSound says.Short = Unit {0}
IsSound says.Nothing = Unit {0}

-- the rank behind every other one: what is selected with it has no other fresh source beside it
abbrev pub last_rank : Rank
last_rank = record { place = 255; name = 0 }

abbrev pub is_alone : Choices → ℕ → ℕ → Bool
is_alone choices source m = is_selected (subject_at choices 0) source last_rank m

-- what an event leaves, what is told of it, and the datagram
pub record NavStep : Type 0 where
  pub after : NavKept
  pub told : List Emit
  pub posted : List Emit

abbrev pub as_it_was : NavKept → NavStep
as_it_was k = record { after = k; told = []; posted = [] }

-- so many lines more were said
abbrev pub counted : ℕ → NavKept → NavKept
counted lines k = record k { lines = (k.lines + lines) % most_count }

abbrev pub said_by : NavKept → List (List ℕ) → NavStep
said_by k [] = as_it_was k
said_by k (text ∷ texts) = record {
  after = counted (length (text ∷ texts)) k;
  told = [];
  posted = posted_of k.rule.group k.sfi k.lines (text ∷ texts);
}

module _ (k : NavKept) (d : Said) where
  -- with what is kept of the course of its source
  abbrev pub with_course : Course → NavKept
  with_course course = record k { courses = slice_set k.courses d.source course }

  abbrev pub course_here : Course
  course_here = course_at k.courses d.source

  -- a usable leg is said where its goal was named before, another one where no other source is fresh
  abbrev pub has_voice : Leg → Goal → Bool
  has_voice leg goal = if is_usable leg then is_named goal course_here else is_alone k.choices d.source d.moment

  abbrev pub is_said : Leg → Goal → Option Rank → Bool
  is_said leg goal rank = is_ranked_chosen k.choices d.source d.moment rank (told_by leg) && has_voice leg goal

  abbrev pub texts_by : Bool → Leg → Goal → List (List ℕ)
  texts_by said leg goal = if said then leg_texts k.rule.talker leg (error_with goal k.rule.taken.timeout d.moment course_here) else []

  abbrev pub leg_kept : Leg → Goal → Option Rank → NavKept
  leg_kept leg goal rank = record (with_course (with_leg goal course_here)) { choices = ranked_after k.choices d.source d.moment rank (told_by leg) }

  abbrev pub leg_step : Leg → Goal → Option Rank → NavStep
  leg_step leg goal rank = said_by (leg_kept leg goal rank) (texts_by (is_said leg goal rank) leg goal)

  abbrev pub said_step : Says → NavStep
  said_step (says.Leg leg goal) = leg_step leg goal (rank_of k.rule.taken d.name.0)
  said_step (says.Error distance) = as_it_was (with_course (with_error (record { moment = d.moment; distance = distance }) course_here))
  said_step says.Short = record (as_it_was k) { told = of_source rules.short_message d.source d.pgn ∷ [] }
  said_step says.Nothing = as_it_was k

-- a message, or none: from an address that no device can have nothing is taken
abbrev pub message_step : NavKept → Option Said → NavStep
message_step k None = as_it_was k
message_step k (Some d) = if has_place d.source then said_step k d d.says else as_it_was k

-- ---- addresses that change hands: what was said of the one that was left and the one that was won is forgotten

abbrev pub given_up : Changed → NavKept → NavKept
given_up changed k = record k { choices = forgotten_of changed k.choices; courses = courses_forgotten changed k.courses }

-- ---- an event that the gateway has taken

abbrev pub hearing_by : Machine → NavKept → Entry → Hearing
hearing_by gateway k e = listening.step_by kind_of gateway k.slots e

abbrev pub with_hearing : Machine → NavKept → Hearing → NavStep
with_hearing gateway k x = message_step (given_up gateway.addresses.changed (record k { slots = x.slots })) (option_map said_of x.message)

abbrev pub step_by : Machine → NavKept → Entry → NavStep
step_by gateway k e = with_hearing gateway k (hearing_by gateway k e)

-- what is left to be emitted
abbrev pub left_with : Machine → NavKept → Hearing → Emitted
left_with gateway k x = let step = with_hearing gateway k x in record { told = x.told ++ step.told; posted = step.posted }

abbrev pub left_by : Machine → NavKept → Entry → Emitted
left_by gateway k e = left_with gateway k (hearing_by gateway k e)
