-- A part with what it gave at the last event.
use Rattle.std.specs.Prelude.{◌≡◌, ℕ, List, [], None}
use Rattle.std.proofs.Common.{ap}
use Rattle.gate_events.specs.Emit.{Emit}
use Rattle.gate_outbox.specs.Output.{emits_of}
use Rattle.history.specs.Entries.{History}
use Rattle.history.specs.Settings.{Settings}
use Rattle.plain_out.specs.Pace.{Utterance, uttered}
use Rattle.parts.specs.declared.given.Given.{Given}
use Rattle.parts.specs.declared.streamed.Streamed.{Streamed}
use Rattle.parts.specs.PartSteps.{KeepsCommands}

-- ---- places for it

abbrev pub given_output : {room : ℕ} → Given room → List Emit
given_output given = emits_of given.emits

abbrev pub given_plain : {room : ℕ} → Given room → List Emit
given_plain given = emits_of given.plain

-- its datagram has no stream
abbrev pub given_utterances : {room : ℕ} → Given room → List Utterance
given_utterances given = uttered None (given_output given)

pub given_unsaid : {room : ℕ} (given : Given room) → given_output given ≡ [] → given_utterances given ≡ []
given_unsaid given none = ap (uttered None) none

abbrev pub streamed_output : {room : ℕ} → Streamed room → List Emit
streamed_output given = emits_of given.emits

abbrev pub streamed_plain : {room : ℕ} → Streamed room → List Emit
streamed_plain given = emits_of given.plain

abbrev pub streamed_utterances : {room : ℕ} → Streamed room → List Utterance
streamed_utterances given = uttered given.stream (streamed_output given)

pub streamed_unsaid : {room : ℕ} (given : Streamed room) → streamed_output given ≡ [] → streamed_utterances given ≡ []
streamed_unsaid given none = ap (uttered given.stream) none

pub record IsEmptyPlace {E : Type 0} (output plain : E → List Emit) (place : E) : Type 0 where
  pub emits : output place ≡ []
  pub said : plain place ≡ []

-- ---- the part, and its place

pub record LaneKept (K E : Type 0) : Type 0 where
  pub part : K
  pub place : E

abbrev pub lane_stands : {R K E : Type 0} → (R → Settings → ℕ → History → K → Type 0) → R → Settings → ℕ → History → LaneKept K E → Type 0
lane_stands stands r c s h lane = stands r c s h lane.part

abbrev pub lane_output : {X K E : Type 0} → (E → List X) → LaneKept K E → List X
lane_output output lane = output lane.place

pub lane_keeps_commands : {R K E : Type 0} (stands : R → Settings → ℕ → History → K → Type 0) → KeepsCommands stands
    → KeepsCommands (lane_stands {E = E} stands)
lane_keeps_commands stands keeps r c s h source address lane are is = keeps r c s h source address lane.part are is

-- ---- a lane that was made of a part: it stands for what the part stands for, and gave nothing yet

pub record IsLane {R K E : Type 0} (stands : R → Settings → ℕ → History → K → Type 0) (output plain : E → List Emit) (part : K) (lane : LaneKept K E) : Type 0 where
  pub stood : (r : R) (c : Settings) (s : ℕ) (h : History) → stands r c s h part → lane_stands stands r c s h lane
  pub emits : lane_output output lane ≡ []
  pub said : lane_output plain lane ≡ []
